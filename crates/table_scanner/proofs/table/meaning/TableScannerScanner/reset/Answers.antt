use Rattle.std.proofs.Common.{◌≡◌, ◌+◌, ◌-◌, true, false, cond, ◌&&◌, map, length, vec_items, is_some, unwrap_or, None, sym, refl, ap, ◌∙◌, rules}
use Rattle.std.proofs.lemmas.List.{length-map}
use Rattle.std.specs.Vec.{with_items}
use Rattle.names.specs.declared.kinds.PixelFormat.{PixelFormat}
use Rattle.std.specs.List.{list_any}
use Rattle.table_scanner.specs.Lookup.{found}
use Rattle.scanner.specs.declared.point.Point.{Point}
use Rattle.table_scanner.specs.Entries.{of_source, is_pair, at_point, offering, pair_there, looked_up, off, restored, Paired, Anchored}
use Rattle.table_scanner.proofs.Lookups.{any_map, found_map}
use Rattle.table_scanner.proofs.Moves.{refilled_map, off_switches}
use Rattle.table_scanner.proofs.table.meaning.TableScannerScanner.reset.Goals as goal

pub invariant_of-self : goal.invariant_of-self
invariant_of-self c =
    let x = c.args.self.now in
    let xs = vec_items x.pairs in
    let ys = vec_items x.settings in
    let pairs = refilled_map off x.pairs c.reset_all.new.entries (c.reset_all.ensures ∙ ap (map off) c.as_mut_slice.ensures.value) in
    let settings = refilled_map restored x.settings c.reset_all-2.new.entries (c.reset_all-2.ensures ∙ ap (map restored) c.as_mut_slice-2.ensures.value) in
    let homed : list_any (of_source x.home) (vec_items (with_items x.pairs c.reset_all.new.entries)) ≡ true =
    ap (list_any (of_source x.home)) pairs ∙ any_map (of_source x.home) (λ z. z) off (λ z. refl) xs ∙ x.homed in
    let anchored : Anchored (vec_items (with_items x.settings c.reset_all-2.new.entries)) (vec_items x.offers) =
    λ p v h. ap (list_any (at_point p)) settings ∙ any_map (at_point p) (λ z. z) restored (λ z. refl) ys ∙ x.anchored p v h in
    let paired : Paired (vec_items (with_items x.pairs c.reset_all.new.entries)) (vec_items (with_items x.settings c.reset_all-2.new.entries)) =
    λ p h. ap (list_any (is_pair p.source p.format)) pairs ∙ any_map (is_pair p.source p.format) (λ z. z) off (λ z. refl) xs
    ∙ x.paired p (sym (any_map (at_point p) (λ z. z) restored (λ z. refl) ys) ∙ sym (ap (list_any (at_point p)) settings) ∙ h) in
    search rules

pub returns : goal.returns
returns c =
    let x = c.args.self.now in
    let xs = vec_items x.pairs in
    let ys = vec_items x.settings in
    let pairs = refilled_map off x.pairs c.reset_all.new.entries (c.reset_all.ensures ∙ ap (map off) c.as_mut_slice.ensures.value) in
    let settings = refilled_map restored x.settings c.reset_all-2.new.entries (c.reset_all-2.ensures ∙ ap (map restored) c.as_mut_slice-2.ensures.value) in
    let there : (q : Point) → pair_there (vec_items (with_items x.pairs c.reset_all.new.entries)) q ≡ pair_there xs q =
    λ q. ap (list_any (is_pair q.source q.format)) pairs ∙ any_map (is_pair q.source q.format) (λ z. z) off (λ z. refl) xs in
    let initial : (q : Point) → looked_up (λ z. z.initial) (vec_items (with_items x.pairs c.reset_all.new.entries)) (vec_items (with_items x.settings c.reset_all-2.new.entries)) q ≡ looked_up (λ z. z.initial) xs ys q =
    λ q j. cond (there q j) ((ap (found (at_point q) (λ z. z.initial)) settings ∙ found_map (at_point q) (λ z. z.initial) restored (λ z. refl) ys) j) None in
    record {
      same = λ j. record {
        offers_source = λ a. (ap (list_any (of_source a)) pairs ∙ any_map (of_source a) (λ z. z) off (λ z. refl) xs) j;
        offers_format = λ a g. (ap (list_any (is_pair a g)) pairs ∙ any_map (is_pair a g) (λ z. z) off (λ z. refl) xs) j;
        power_on = λ q. initial q j;
        offers_value = λ q v. is_some (initial q j) && list_any (offering q v) (vec_items x.offers);
        home_source = x.home;
        home_format = λ a. unwrap_or ((ap (found (of_source a) (λ z. z.format)) pairs ∙ found_map (of_source a) (λ z. z.format) off (λ z. refl) xs) j) PixelFormat.Gray8;
      };
      after = record {
        enabled = λ a g. ap (λ zs. unwrap_or (found (is_pair a g) (λ z. z.enabled) zs) false) pairs ∙ off_switches a g xs;
        current = λ q j. cond (there q j) ((ap (found (at_point q) (λ z. z.current)) settings ∙ found_map (at_point q) (λ z. z.current) restored (λ z. refl) ys) j) None;
      };
      entries = λ j. (ap length pairs ∙ length-map xs off) j + (ap length settings ∙ length-map ys restored) j + length (vec_items x.offers) - 1;
    }
