use Rattle.std.proofs.Common.{◌≡◌, ◌≤◌, true, length, Some, None, vec_items, sym, ap, ◌∙◌, subst, inl, inr, arith}
use Rattle.std.specs.List.{list_any}
use Rattle.table_scanner.specs.Device.{device}
use Rattle.table_scanner.specs.Entries.{at_point, Anchored}
use Rattle.table_scanner.specs.Filling.{fault_of, carried_out, new_source, new_format, new_attribute, offer_of}
use Rattle.table_scanner.specs.Changes.{change_of}
use Rattle.table_scanner.proofs.Fillings.{listed, anchored_push, setting_there, brings_source, brings_format, brings_attribute, brings_offer}
use Rattle.table_scanner.proofs.table.TableScanner.carry_out.Goals as goal

-- the new offer hangs on the setting that was asked for
pub invariant_of-self-in-Offer-1-clause-anchored : goal.invariant_of-self-in-Offer-1-clause-anchored
invariant_of-self-in-Offer-1-clause-anchored c =
    let x = c.args.self.now in
    let p = c.in-Offer.point in
    let vs = c.in-Offer.values in
    let free : fault_of (device x) (Some (offer_of p vs)) ≡ None = ap (λ z. fault_of (device x) (Some (change_of z))) (sym c.in-Offer.is) ∙ c.requires in
    let started : 1 ≤ length (vec_items x.pairs) = omega (arith, x.pairs.ok.0) in
    let one = c.same_points_are_one.ensures in
    let there : list_any (at_point p) (vec_items x.settings) ≡ true = setting_there one (vec_items x.pairs) (vec_items x.settings) (vec_items x.offers) x.home started x.paired x.anchored p vs free in
    subst (Anchored (vec_items x.settings)) (sym c.push_reserved-in-Offer.ensures.items) (anchored_push one (vec_items x.settings) (vec_items x.offers) (record { point = p; values = vs }) there x.anchored)

pub returns-in-Source : goal.returns-in-Source
returns-in-Source c =
    let x = c.args.self.now in
    let s = c.in-Source.source in
    let f = c.in-Source.format in
    let pairs = vec_items x.pairs in
    let settings = vec_items x.settings in
    let offers = vec_items x.offers in
    let started : 1 ≤ length pairs = omega (arith, x.pairs.ok.0) in
    let one = c.same_points_are_one.ensures in
    let pushed = ap (λ zs. listed zs settings offers x.home) c.push_reserved-in-Source.ensures.items in
    elim c.in-Source.is [
      | inl is ↦
          let free : fault_of (device x) (Some (new_source s f)) ≡ None = ap (λ z. fault_of (device x) (Some (change_of z))) (sym is) ∙ c.requires in
          pushed ∙ brings_source one pairs settings offers x.home started x.paired x.anchored s f free ∙ ap (λ z. carried_out (device x) (change_of z)) (sym is)
      | inr is ↦
          let free : fault_of (device x) (Some (new_format s f)) ≡ None = ap (λ z. fault_of (device x) (Some (change_of z))) (sym is) ∙ c.requires in
          pushed ∙ brings_format one pairs settings offers x.home started x.paired x.anchored s f free ∙ ap (λ z. carried_out (device x) (change_of z)) (sym is)
    ]

pub returns-in-Attribute : goal.returns-in-Attribute
returns-in-Attribute c =
    let x = c.args.self.now in
    let p = c.in-Attribute.point in
    let v = c.in-Attribute.value in
    let is = sym c.in-Attribute.is in
    let started : 1 ≤ length (vec_items x.pairs) = omega (arith, x.pairs.ok.0) in
    let free : fault_of (device x) (Some (new_attribute p v)) ≡ None = ap (λ z. fault_of (device x) (Some (change_of z))) is ∙ c.requires in
    ap (λ zs. listed (vec_items x.pairs) zs (vec_items x.offers) x.home) c.push_reserved.ensures.items
    ∙ brings_attribute c.same_points_are_one.ensures (vec_items x.pairs) (vec_items x.settings) (vec_items x.offers) x.home started x.paired x.anchored p v free
    ∙ ap (λ z. carried_out (device x) (change_of z)) is

pub returns-in-Offer : goal.returns-in-Offer
returns-in-Offer c =
    let x = c.args.self.now in
    let p = c.in-Offer.point in
    let vs = c.in-Offer.values in
    let is = sym c.in-Offer.is in
    let started : 1 ≤ length (vec_items x.pairs) = omega (arith, x.pairs.ok.0) in
    let free : fault_of (device x) (Some (offer_of p vs)) ≡ None = ap (λ z. fault_of (device x) (Some (change_of z))) is ∙ c.requires in
    ap (λ zs. listed (vec_items x.pairs) (vec_items x.settings) zs x.home) c.push_reserved-in-Offer.ensures.items
    ∙ brings_offer c.same_points_are_one.ensures (vec_items x.pairs) (vec_items x.settings) (vec_items x.offers) x.home started x.paired x.anchored p vs free
    ∙ ap (λ z. carried_out (device x) (change_of z)) is
