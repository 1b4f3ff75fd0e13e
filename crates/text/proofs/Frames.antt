-- What single frames do, and the trees that values make.
use Rattle.std.proofs.Common.{◌≡◌, ℕ, zero, suc, ◌-◌, ◌<◌, Bool, true, false, cond, eqb, ◌⊎◌, List, [], ◌∷◌, refl, ap, ◌∙◌, inl, inr, sub-one, arith}
use Rattle.std.proofs.lemmas.Bool.{cond-true, cond-false}
use Rattle.std.proofs.lemmas.Bool.Decides.{nat_tests}
use Rattle.text.specs.Bytes.{white, digit}
use Rattle.text.specs.Machine.{Frame, Tape, ending, event, name, go, says, forbidden, too_deep, step, value, member, members, colon, entries, first, after, digits, whole, number, begin_object, begin_array}
use Rattle.text.specs.Tree.{Json, Members, Entries, scalar, object, array, no_member, one_member, no_entry, one_entry, events, member_events, entry_events, Proper, ProperMembers, ProperEntries}
use Rattle.text.specs.Ahead.{Skips}

pub skip_value : (d : ℕ) → Skips (λ k. value d ∷ k)
unfolding step
skip_value d k b e = cond-true (white b) _ _ e

pub skip_member : (d : ℕ) → Skips (λ k. member d ∷ k)
unfolding step
skip_member d k b e = cond-true (white b) _ _ e

pub skip_members : (f : Bool) (d : ℕ) → Skips (λ k. members f d ∷ k)
unfolding step
skip_members true d k b e = cond-true (white b) _ _ e
skip_members false d k b e = cond-true (white b) _ _ e

pub skip_colon : (d : ℕ) → Skips (λ k. colon d ∷ k)
unfolding step
skip_colon d k b e = cond-true (white b) _ _ e

pub skip_entries : (f : Bool) (d : ℕ) → Skips (λ k. entries f d ∷ k)
unfolding step
skip_entries true d k b e = cond-true (white b) _ _ e
skip_entries false d k b e = cond-true (white b) _ _ e

pub skip_end : Skips (λ k. [])
unfolding step
skip_end k b e = cond-true (white b) _ _ e

pub end_forbidden : (b : ℕ) → white b ≡ false → step [] b ≡ forbidden
unfolding step
end_forbidden b e = cond-false (white b) _ _ e

pub begins_object : (d b : ℕ) (k : List Frame) → b ≡ 123 → 0 < d → step (value d ∷ k) b ≡ says begin_object (members true (d - 1) ∷ k)
unfolding step
begins_object zero b k e h = absurd (omega arith)
begins_object (suc n) b k e h = rw (e, sub-one) refl

pub begins_array : (d b : ℕ) (k : List Frame) → b ≡ 91 → 0 < d → step (value d ∷ k) b ≡ says begin_array (entries true (d - 1) ∷ k)
unfolding step
begins_array zero b k e h = absurd (omega arith)
begins_array (suc n) b k e h = rw (e, sub-one) refl

pub deep_object : (d b : ℕ) (k : List Frame) → b ≡ 123 → d ≡ 0 → step (value d ∷ k) b ≡ too_deep
unfolding step
deep_object d b k e z = rw (e, z) refl

pub deep_array : (d b : ℕ) (k : List Frame) → b ≡ 91 → d ≡ 0 → step (value d ∷ k) b ≡ too_deep
unfolding step
deep_array d b k e z = rw (e, z) refl

-- what the first digit of a number leads to
pub led_by : ℕ → List Frame → List Frame
led_by b k = cond (eqb b 48) (after whole ∷ k) (digits whole ∷ k)

-- a digit begins a number, also one that has no minus
pub digit_says : (b d : ℕ) (k : List Frame) → digit b ≡ true → step (value d ∷ k) b ≡ says number (led_by b k)
unfolding step led_by
digit_says b d k e = grind (arith, nat_tests)

pub digit_goes : (b : ℕ) (k : List Frame) → digit b ≡ true → step (first ∷ k) b ≡ go (led_by b k)
unfolding step led_by
digit_goes b k e = grind (arith, nat_tests)

pub number_says : (b : ℕ) → (b ≡ 45) ⊎ (digit b ≡ true) → (d : ℕ) (k : List Frame) → (l : List Frame) × (step (value d ∷ k) b ≡ says number l)
unfolding step
number_says b (inl e) d k = (first ∷ k, rw e refl)
number_says b (inr e) d k = (led_by b k, digit_says b d k e)

-- the events of a value do not change how the text ends
mutual
  unfolding events member_events entry_events

  pub same_ending : (v : Json) (t : Tape) → ending (events v t) ≡ ending t
  same_ending (scalar x i) t = refl
  same_ending (object i ms j) t = same_ending_members ms _
  same_ending (array i vs j) t = same_ending_entries vs _

  pub same_ending_members : (ms : Members) (t : Tape) → ending (member_events ms t) ≡ ending t
  same_ending_members no_member t = refl
  same_ending_members (one_member i v ms) t = same_ending v _ ∙ same_ending_members ms t

  pub same_ending_entries : (vs : Entries) (t : Tape) → ending (entry_events vs t) ≡ ending t
  same_ending_entries no_entry t = refl
  same_ending_entries (one_entry v vs) t = same_ending v _ ∙ same_ending_entries vs t

-- one member more, at the end
pub add_member : Members → ℕ → Json → Members
add_member no_member i v = one_member i v no_member
add_member (one_member j w ms) i v = one_member j w (add_member ms i v)

pub add_member_events : (ms : Members) (i : ℕ) (v : Json) (t : Tape) → member_events (add_member ms i v) t ≡ member_events ms (event name i (events v t))
unfolding member_events add_member
add_member_events no_member i v t = refl
add_member_events (one_member j w ms) i v t = ap (λ u. event name j (events w u)) (add_member_events ms i v t)

-- one entry more, at the end
pub add_entry : Entries → Json → Entries
add_entry no_entry v = one_entry v no_entry
add_entry (one_entry w vs) v = one_entry w (add_entry vs v)

pub add_entry_events : (vs : Entries) (v : Json) (t : Tape) → entry_events (add_entry vs v) t ≡ entry_events vs (events v t)
unfolding entry_events add_entry
add_entry_events no_entry v t = refl
add_entry_events (one_entry w vs) v t = ap (events w) (add_entry_events vs v t)

pub add_member_proper : (ms : Members) (i : ℕ) (v : Json) → ProperMembers ms → Proper v → ProperMembers (add_member ms i v)
unfolding ProperMembers add_member
add_member_proper no_member i v p q = (q, tt)
add_member_proper (one_member j w ms) i v p q = (p.0, add_member_proper ms i v p.1 q)

pub add_entry_proper : (vs : Entries) (v : Json) → ProperEntries vs → Proper v → ProperEntries (add_entry vs v)
unfolding ProperEntries add_entry
add_entry_proper no_entry v p q = (q, tt)
add_entry_proper (one_entry w vs) v p q = (p.0, add_entry_proper vs v p.1 q)
