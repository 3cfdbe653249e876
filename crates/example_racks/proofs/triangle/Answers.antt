use Rattle.example_racks.proofs.triangle.Goals as goal

pub returns : goal.returns
returns c = rw (c.between.ensures, c.between-2.ensures, c.between-3.ensures, c.between-4.ensures, c.between-5.ensures, c.between-6.ensures) at c.from_tables.ensures
