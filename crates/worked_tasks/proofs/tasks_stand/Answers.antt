use Rattle.std.proofs.Common.{◌≡◌, ℕ, Bool, List, map, get_or, pos, Some, Ok, Err, Option, Result, refl, sym, ap, ◌∙◌, subst}
use Rattle.std.proofs.lemmas.List.{get_or-map}
use Rattle.std.specs.List.{All}
use Rattle.text.specs.Strings.{units, paired, matching}
use Rattle.text.specs.Numbers.{decimal}
use Rattle.text.specs.Parts.{extent, value_length, string_part, number_part}
use Rattle.text.specs.Machine.{step, over, run, tape, outcome}
use Rattle.names.specs.declared.kinds.Source.{Source}
use Rattle.names.specs.declared.kinds.PixelFormat.{PixelFormat}
use Rattle.names.specs.declared.kinds.Value.{Value}
use Rattle.names.specs.declared.kinds.Value.TheVariants as values
use Rattle.names.specs.Names.{names_from, names_of, place}
use Rattle.names.specs.Vocabulary.{letters, starts, source_spelled, format_spelled, attribute_spelled}
use Rattle.table.specs.declared.fault.TableFault.{TableFault}
use Rattle.table.specs.Words.{key_letters, key_starts, key_names, key_spelled, exception_spelled, vendor, foreign, word_meaning, value_meaning}
use Rattle.table.specs.Drafts.{taken}
use Rattle.table.specs.Form.{given, on_name, on_at, after}
use Rattle.table.specs.Limits.{max_weight}
use Rattle.table.specs.Task.{ActionObject}
use Rattle.table.specs.Verdict.{form, verdict, task}
use Rattle.scanners.specs.Flatbed.{flatbed_catalogue}
use Rattle.negotiation.specs.Troubles.{object_troubles}
use Rattle.negotiation.specs.Plans.{within}
use Rattle.negotiation.specs.Verdicts.{Outcome, task_outcome, EachHasOneOutcome}
use Rattle.table.specs.Places.{outside}
use Rattle.worked_tasks.specs.Worked.{gray_point, leaves, Row, Stands, ComesTo, worked}
use Rattle.worked_tasks.proofs.tasks_stand.Goals as goal

-- what comes of what was read, computed
abbrev came : Result (List ActionObject) TableFault → Result Outcome TableFault
came (Err e) = Err e
came (Ok acts) = Ok (task_outcome flatbed_catalogue outside acts)

-- the text that was read comes to it
comes : EachHasOneOutcome → (t : List ℕ) (x : Result (List ActionObject) TableFault) → task t max_weight ≡ x → ComesTo t (came x)
comes one t (Err e) is = is
comes one t (Ok acts) is = (acts, is, one flatbed_catalogue outside acts)

-- what is computed of a row
abbrev computed : Row → Result Outcome TableFault × Bool × Option Value
computed r = (
  came (task r.text max_weight),
  (leaves flatbed_catalogue r.result).enabled Source.FlatBed PixelFormat.Gray8,
  (leaves flatbed_catalogue r.result).current gray_point,
)

-- what the row says of it
abbrev said : Row → Result Outcome TableFault × Bool × Option Value
said r = (r.result, r.gray_enabled, Some (values.Number (pos r.gray_resolution)))

row : EachHasOneOutcome → (r : Row) → computed r ≡ said r → Stands r
row one r is = record {
  comes = subst (ComesTo r.text) (ap (λ x. x.0) is) (comes one r.text (task r.text max_weight) refl);
  enabled = ap (λ x. x.1) is;
  resolution = ap (λ x. x.2) is;
}

-- rows that say just what is computed
stand : EachHasOneOutcome → (rs : List Row) → map computed rs ≡ map said rs → All Stands rs
stand one rs is k d in_list =
    row one (get_or rs k d) (sym (get_or-map computed rs k d (said d) in_list) ∙ ap (λ xs. get_or xs k (said d)) is ∙ get_or-map said rs k d (said d) in_list)

pub returns : goal.returns
unfolding units paired matching decimal extent value_length string_part number_part step over run tape outcome names_from names_of place letters starts source_spelled format_spelled attribute_spelled key_letters key_starts key_names key_spelled exception_spelled vendor foreign word_meaning value_meaning taken given on_name on_at after form verdict object_troubles within
returns c = stand c.each_task_has_one_outcome.ensures worked refl
