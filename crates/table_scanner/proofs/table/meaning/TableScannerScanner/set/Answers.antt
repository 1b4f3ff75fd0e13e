use Rattle.std.proofs.Common.{◌≡◌, ◌+◌, ◌-◌, true, cond, ◌&&◌, length, set, length-set, vec_items, is_some, None, sym, refl, ap, subst, ◌∙◌, rules}
use Rattle.std.proofs.lemmas.Bool.{both_ways}
use Rattle.names.specs.declared.kinds.Value.{Value}
use Rattle.scanner.specs.declared.point.Point.{Point}
use Rattle.scanner.specs.Meaning.{same_point}
use Rattle.table_scanner.specs.declared.entry.Setting.{Setting}
use Rattle.std.specs.List.{list_any}
use Rattle.table_scanner.specs.Device.{catalogue_of}
use Rattle.table_scanner.specs.Entries.{at_point, offering, pair_there, looked_up, Paired, Anchored}
use Rattle.table_scanner.specs.PointsKept.{point_there, pair_of_value}
use Rattle.table_scanner.proofs.Lookups.{looked_put}
use Rattle.table_scanner.proofs.Moves.{taken_points, taken_initial, taken_current}
use Rattle.table_scanner.proofs.table.meaning.TableScannerScanner.set.Goals as goal

-- the value is offered, so its point was found
pub returns-in_default-clause-answer : goal.returns-in_default-clause-answer
returns-in_default-clause-answer c =
    let x = c.args.self.now in
    let p = c.args.point in
    let there : list_any (at_point p) (vec_items x.settings) ≡ true = point_there (vec_items x.pairs) (vec_items x.settings) (vec_items x.offers) x.home p c.args.value (search rules) in
    let none = c.in_default.ensures.some ∙ ap (list_any (at_point p)) c.as_slice.ensures.value in
    absurd (both_ways _ (sym none) there)

-- whichever value is written, the settings still stand at pairs
pub invariant_of-self-clause-paired : goal.invariant_of-self-clause-paired
invariant_of-self-clause-paired c =
    let x = c.args.self.now in
    let old = c.index_mut.result.now in
    let kept : (w : Value) → Paired (vec_items x.pairs) (set (vec_items x.settings) c.in-Some.i (record { point = old.point; initial = old.initial; current = w })) =
    λ w p h. x.paired p (sym (taken_points c.same_points_are_one.ensures (vec_items x.settings) _ c.in-Some.i c.args.point w old c.as_slice.ensures.value c.in-Some.ensures.first c.index_mut.ensures.value p) ∙ h) in
    search (rules, kept)

-- whichever value is written, the offers still hang on a setting
pub invariant_of-self-clause-anchored : goal.invariant_of-self-clause-anchored
invariant_of-self-clause-anchored c =
    let x = c.args.self.now in
    let old = c.index_mut.result.now in
    let kept : (w : Value) → Anchored (set (vec_items x.settings) c.in-Some.i (record { point = old.point; initial = old.initial; current = w })) (vec_items x.offers) =
    λ w p v h. taken_points c.same_points_are_one.ensures (vec_items x.settings) _ c.in-Some.i c.args.point w old c.as_slice.ensures.value c.in-Some.ensures.first c.index_mut.ensures.value p ∙ x.anchored p v h in
    search (rules, kept)

pub returns : goal.returns
returns c =
    let x = c.args.self.now in
    let xs = vec_items x.settings in
    let i = c.in-Some.i in
    let p = c.args.point in
    let v = c.args.value in
    let old = c.index_mut.result.now in
    let e = c.as_slice.ensures.value in
    let h = c.in-Some.ensures.first in
    let one = c.same_points_are_one.ensures in
    let offered : (catalogue_of x).offers_value p v ≡ true = search rules in
    let there : pair_there (vec_items x.pairs) p ≡ true = pair_of_value (vec_items x.pairs) (vec_items x.settings) (vec_items x.offers) x.home p v offered in
    let read = c.index_mut.ensures.value in
    let taken : Setting = record { point = old.point; initial = old.initial; current = v } in
    let initial : (q : Point) → looked_up (λ z. z.initial) (vec_items x.pairs) (set xs i taken) q ≡ looked_up (λ z. z.initial) (vec_items x.pairs) xs q =
    λ q. ap (λ o. cond (pair_there (vec_items x.pairs) q) o None) (taken_initial one xs _ i p v old e h read q) in
    record {
      same = λ j. record {
        offers_source = (catalogue_of x).offers_source;
        offers_format = (catalogue_of x).offers_format;
        power_on = λ q. initial q j;
        offers_value = λ q w. is_some (initial q j) && list_any (offering q w) (vec_items x.offers);
        home_source = x.home;
        home_format = (catalogue_of x).home_format;
      };
      answer = search rules;
      after = record {
        enabled = λ a g. refl;
        current = λ q.
            ap (λ o. cond (pair_there (vec_items x.pairs) q) o None) (taken_current one xs _ i p v old e h read q)
            ∙ looked_put (pair_there (vec_items x.pairs) q) (same_point p q) v _ (λ same. subst (λ z. pair_there (vec_items x.pairs) z ≡ true) (one.points p q same) there);
      };
      entries = ap (λ n. length (vec_items x.pairs) + n + length (vec_items x.offers) - 1) (length-set xs i taken);
    }
