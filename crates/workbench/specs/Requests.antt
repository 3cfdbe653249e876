-- Which lines ask for what. Assumes nothing.
use Rattle.std.specs.Prelude.{◌≡◌, ℕ, ◌⊎◌, List, [], ◌∷◌, None, Option, MatchOption, codes}
use Rattle.std.specs.Str.{IsUtf8}
use denote.Ref.{Bor}
use Rattle.fabric.specs.declared.call.Call.TheVariants.{Admit, Forward, Take}
use Rattle.workbench.specs.declared.request.Request.{Request}
use Rattle.workbench.specs.declared.request.Request.TheVariants.{Call, Waiting, Close}
use Rattle.workbench.specs.Words.{WordsOf, Writes}

-- what the words ask for: `admit U V TAG`, `forward X`, `take X`, `waiting` or `close`
abbrev pub Asks : List (Bor (List ℕ)) → Request → Type 0
Asks ws (Call (Admit p t)) =
    (verb u v tag : Bor (List ℕ)) × (ws ≡ verb ∷ u ∷ v ∷ tag ∷ []) × (verb.now ≡ codes "admit") × Writes 16 u.now p.sender.0 × Writes 16 v.now p.receiver.0 × Writes 32 tag.now t
Asks ws (Call (Forward x)) = (verb from : Bor (List ℕ)) × (ws ≡ verb ∷ from ∷ []) × (verb.now ≡ codes "forward") × Writes 16 from.now x.0
Asks ws (Call (Take x)) = (verb from : Bor (List ℕ)) × (ws ≡ verb ∷ from ∷ []) × (verb.now ≡ codes "take") × Writes 16 from.now x.0
Asks ws Waiting = (verb : Bor (List ℕ)) × (ws ≡ verb ∷ []) × (verb.now ≡ codes "waiting")
Asks ws Close = (verb : Bor (List ℕ)) × (ws ≡ verb ∷ []) × (verb.now ≡ codes "close")

-- what a line asks for by its words, or that they ask for nothing
abbrev pub AsksIn : List ℕ → Option Request → Type 0
AsksIn line r = (ws : List (Bor (List ℕ))) × WordsOf line ws × MatchOption r ((q : Request) → Asks ws q → ⊥) (Asks ws)

-- the same of bytes: those that are no text ask for nothing
abbrev pub AskedIn : List ℕ → Option Request → Type 0
AskedIn line r = (IsUtf8 line × AsksIn line r) ⊎ ((IsUtf8 line → ⊥) × (r ≡ None))
