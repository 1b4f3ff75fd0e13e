-- Ban calls, and piles of locks.
use Rattle.std.proofs.Common.{◌≡◌, Bool, true, false, cond, not, ◌&&◌, ◌||◌, leb, List, [], ◌∷◌, ◌++◌, length, Some, Result, sym, refl, ap, ◌∙◌, subst}
use Rattle.std.proofs.lemmas.List.{length_push}
use Rattle.std.proofs.lemmas.List.Folds.{list_any-append}
use Rattle.std.proofs.Math.Bool.{or-false}
use Rattle.names.specs.declared.kinds.Attribute.{Attribute}
use Rattle.names.specs.declared.kinds.Value.{Value}
use Rattle.lock.specs.declared.ban.Ban.{Ban}
use Rattle.scanners.specs.declared.fault.FillFault.{FillFault}
use Rattle.lock.specs.Bans.{Bans, Forbidden, forbids, forbidden, most_bans, room_for, locked, either, PileBansTheUnion, PileInAnyOrder}
use Rattle.scanners.specs.Faults.{first_fault, told}

-- a ban that the numbers make: it is added where there is room
add : (full : Bool) (call : Forbidden) (old : List Ban) (b : Ban) → leb most_bans (length old) ≡ full → ((a : Attribute) (v : Value) → forbids b a v ≡ call a v)
    → Bans (Some call) old (cond full old (old ++ b ∷ [])) (told (first_fault false false false full))
add true call old b e is =
    record { says = sym (ap (λ t. told (first_fault false false false t)) e); count = refl; after = λ a v. sym (or-false (forbidden old a v)) }
add false call old b e is =
    record {
      says = sym (ap (λ t. told (first_fault false false false t)) e);
      count = length_push old b;
      after = λ a v. list_any-append (λ x. forbids x a v) old (b ∷ []) ∙ ap (λ t. forbidden old a v || t) (or-false (forbids b a v) ∙ is a v);
    }

pub added : (call : Forbidden) (old new : List Ban) (b : Ban) (r : Result (Unit {0}) FillFault)
    → ((a : Attribute) (v : Value) → forbids b a v ≡ call a v)
    → r ≡ room_for old
    → new ≡ cond (leb most_bans (length old)) old (old ++ b ∷ [])
    → Bans (Some call) old new r
added call old new b r is answer list =
    let full = leb most_bans (length old) in
    let one = add full call old b refl is in
    subst (λ x. Bans (Some call) old x r) (sym list) (subst (λ x. Bans (Some call) old (cond full old (old ++ b ∷ [])) x) (sym answer) one)

-- what is left of an offer under two bans
both : (o x y : Bool) → ((o && not x) && not y) ≡ (o && not (x || y))
both true true y = refl
both true false y = refl
both false x y = refl

turned : (o x y : Bool) → (o && not (x || y)) ≡ (o && not (y || x))
turned o true true = refl
turned o true false = refl
turned o false true = refl
turned o false false = refl

-- two locks are one lock that bans what either bans, in either order
pub pile_union : PileBansTheUnion
pile_union k x y =
    λ i. record {
      offers_source = k.offers_source;
      offers_format = k.offers_format;
      power_on = k.power_on;
      offers_value = λ p v. both (k.offers_value p v) (x p.attribute v) (y p.attribute v) i;
      home_source = k.home_source;
      home_format = k.home_format;
    }

pub pile_order : PileInAnyOrder
pile_order k x y =
    let turn : locked k (either x y) ≡ locked k (either y x) =
    λ i. record {
      offers_source = k.offers_source;
      offers_format = k.offers_format;
      power_on = k.power_on;
      offers_value = λ p v. turned (k.offers_value p v) (x p.attribute v) (y p.attribute v) i;
      home_source = k.home_source;
      home_format = k.home_format;
    } in
    pile_union k x y ∙ turn ∙ sym (pile_union k y x)
