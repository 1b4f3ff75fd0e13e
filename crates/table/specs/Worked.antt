-- Worked texts, and what each comes to: the number and the offset of its fault, or 0 and how many records it takes.
use Rattle.std.specs.Prelude.{◌≡◌, ℕ, List, [], ◌∷◌, map, length, Ok, Err, codes, Result}
use Rattle.table.specs.declared.record.Record.{Record}
use Rattle.table.specs.declared.fault.TableFault.{TableFault}
use Rattle.table.specs.Limits.{max_weight}
use Rattle.table.specs.Faults.{table_number, table_offset}
use Rattle.table.specs.Verdict.{verdict}

-- a verdict in two numbers
abbrev pub shown : Result (List Record) TableFault → List ℕ
shown (Ok rs) = 0 ∷ length rs ∷ []
shown (Err e) = table_number e ∷ table_offset e ∷ []

-- a text, the records of its table, and what it comes to
pub record Row : Type 0 where
  pub text : List ℕ
  pub room : ℕ
  pub comes : List ℕ

-- a text with a full table
abbrev full : List ℕ → List ℕ → Row
full t c = record { text = t; room = max_weight; comes = c }

abbrev pub rows : List Row
rows =
    full (codes "{}") (0 ∷ 0 ∷ [])
    ∷ full (codes "{\"actions\":[}") (11 ∷ 12 ∷ [])
    ∷ full (codes "[]") (21 ∷ 0 ∷ [])
    ∷ full (codes "{\"actions\":[]}") (0 ∷ 0 ∷ [])
    ∷ full (codes "{\"actions\":[{\"action\":\"configure\"}]}") (0 ∷ 1 ∷ [])
    ∷ full (codes "{\"a\\u0063tions\":[{\"streams\":[{}]}]}") (0 ∷ 2 ∷ [])
    ∷ full (codes "{\"actions\":[{\"streams\":[{\"vendor\":\"x\"}]}]}") (0 ∷ 1 ∷ [])
    ∷ full (codes "{\"streams\":[]}") (22 ∷ 1 ∷ [])
    ∷ full (codes "{\"actions\":[7]}") (23 ∷ 12 ∷ [])
    ∷ full (codes "{\"actions\":[{\"exception\":\"nextStream\"}]}") (23 ∷ 25 ∷ [])
    ∷ full (codes "{\"actions\":[],\"actions\":[]}") (25 ∷ 14 ∷ [])
    ∷ full (codes "{\"actions\":[{},{},{},{},{},{},{},{},7]}") (26 ∷ 36 ∷ [])
    ∷ full (codes "{\"actions\":[7],") (11 ∷ 15 ∷ [])
    -- an attribute object without its name, refused at its end
    ∷ full (codes "{\"actions\":[{\"streams\":[{\"sources\":[{\"pixelFormats\":[{\"attributes\":[{}]}]}]}]}]}") (24 ∷ 69 ∷ [])
    -- a skipped stream weighs too: the task weighs 7, and a table of 6 records is too small for it
    ∷ record { text = codes "{\"actions\":[{\"streams\":[{\"vendor\":\"x\"}]}]}"; room = 7; comes = 0 ∷ 1 ∷ [] }
    ∷ record { text = codes "{\"actions\":[{\"streams\":[{\"vendor\":\"x\"}]}]}"; room = 6; comes = 27 ∷ 0 ∷ [] }
    ∷ []

abbrev pub Worked : Type 0
Worked = map (λ r. shown (verdict r.text r.room)) rows ≡ map (λ r. r.comes) rows
