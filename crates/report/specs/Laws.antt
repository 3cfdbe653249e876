-- What holds of all files. Assumes nothing.
use Rattle.std.specs.Prelude.{◌≡◌, ℕ, List}
use Rattle.report.specs.Reports.{Reports}

-- a file has one text
abbrev pub OneText : Type 0
OneText = (file one other : List ℕ) → Reports file one → Reports file other → one ≡ other
