use Rattle.std.proofs.Common.{◌≡◌, ◌+◌, ◌-◌, Bool, true, cond, ◌&&◌, length, set, length-set, vec_items, is_some, unwrap_or, None, ap, ◌∙◌, rules}
use Rattle.names.specs.declared.kinds.PixelFormat.{PixelFormat}
use Rattle.std.specs.List.{list_any}
use Rattle.names.specs.declared.kinds.Value.{Value}
use Rattle.scanner.specs.declared.point.Point.{Point}
use Rattle.table_scanner.specs.declared.entry.Pair.{Pair}
use Rattle.table_scanner.specs.declared.entry.Setting.{Setting}
use Rattle.table_scanner.specs.Lookup.{found}
use Rattle.table_scanner.specs.Entries.{of_source, is_pair, at_point, offering, looked_up, Paired}
use Rattle.table_scanner.proofs.Moves.{sources_kept, on_formats, on_homes, on_switches}
use Rattle.table_scanner.proofs.table.meaning.TableScannerScanner.enable.Goals as goal

pub returns-in_default-clause-answer : goal.returns-in_default-clause-answer
returns-in_default-clause-answer c =
    let test = is_pair c.args.source c.args.format in
    c.in_default.ensures.some ∙ ap (list_any test) c.as_slice.ensures.value

-- whether the pair is enabled plays no part in which sources there are
pub invariant_of-self-clause-homed : goal.invariant_of-self-clause-homed
invariant_of-self-clause-homed c =
    let x = c.args.self.now in
    let old = c.index_mut.result.now in
    let kept : (b : Bool) → list_any (of_source x.home) (set (vec_items x.pairs) c.in-Some.i (record { source = old.source; format = old.format; enabled = b })) ≡ true =
    λ b. sources_kept c.same_points_are_one.ensures (vec_items x.pairs) _ c.in-Some.i c.args.source c.args.format old b c.as_slice.ensures.value c.in-Some.ensures.first c.index_mut.ensures.value x.home ∙ x.homed in
    search (rules, kept)

-- nor in where the settings stand
pub invariant_of-self-clause-paired : goal.invariant_of-self-clause-paired
invariant_of-self-clause-paired c =
    let x = c.args.self.now in
    let old = c.index_mut.result.now in
    let kept : (b : Bool) → Paired (set (vec_items x.pairs) c.in-Some.i (record { source = old.source; format = old.format; enabled = b })) (vec_items x.settings) =
    λ b p there. on_formats c.same_points_are_one.ensures (vec_items x.pairs) _ c.in-Some.i c.args.source c.args.format old b c.as_slice.ensures.value c.in-Some.ensures.first c.index_mut.ensures.value p.source p.format ∙ x.paired p there in
    search (rules, kept)

pub returns : goal.returns
returns c =
    let x = c.args.self.now in
    let xs = vec_items x.pairs in
    let i = c.in-Some.i in
    let s = c.args.source in
    let f = c.args.format in
    let old = c.index_mut.result.now in
    let one = c.same_points_are_one.ensures in
    let e = c.as_slice.ensures.value in
    let h = c.in-Some.ensures.first in
    let read = c.index_mut.ensures.value in
    let on : Pair = record { source = old.source; format = old.format; enabled = true } in
    let formats = on_formats one xs _ i s f old true e h read in
    let looked : (part : Setting → Value) (q : Point) → looked_up part (set xs i on) (vec_items x.settings) q ≡ looked_up part xs (vec_items x.settings) q =
    λ part q. ap (λ b. cond b (found (at_point q) part (vec_items x.settings)) None) (formats q.source q.format) in
    record {
      same = λ j. record {
        offers_source = λ a. sources_kept one xs _ i s f old true e h read a j;
        offers_format = λ a g. formats a g j;
        power_on = λ q. looked (λ z. z.initial) q j;
        offers_value = λ q v. is_some (looked (λ z. z.initial) q j) && list_any (offering q v) (vec_items x.offers);
        home_source = x.home;
        home_format = λ a. unwrap_or (on_homes one xs _ i s f old true e h read a j) PixelFormat.Gray8;
      };
      answer = c.in-Some.ensures.some ∙ ap (list_any (is_pair s f)) e;
      after = record { enabled = on_switches one xs _ i s f old true e h read; current = λ q. looked (λ z. z.current) q };
      entries = ap (λ n. n + length (vec_items x.settings) + length (vec_items x.offers) - 1) (length-set xs i on);
    }
