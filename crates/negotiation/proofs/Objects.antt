-- An object of a stream: what lies at it itself, and what is inside it.
use Rattle.std.proofs.Common.{◌≡◌, Bool, true, false, List, [], ◌∷◌, ◌++◌, Some, None, Ok, Err, Option, Result, is_ok, ◌≢◌, sym, refl, ap, ◌∙◌, append-nil}
use Rattle.std.specs.Result.{is_err}
use Rattle.std.specs.Prelude.{is_some, cond, not}
use Rattle.table.specs.declared.exception.Exception.{Exception}
use Rattle.scanner.specs.declared.plan.Item.{Item}
use Rattle.negotiation.specs.declared.trouble.Trouble.{Trouble}
use Rattle.negotiation.specs.Troubles.{asked, one_if, reached, object_troubles}
use Rattle.negotiation.specs.Plans.{within, fitted}
use Rattle.negotiation.specs.Endings.{decide, decided_by}
use Rattle.negotiation.specs.Tellings.{trouble_of, Noted, Went}
use Rattle.negotiation.proofs.Deciding.{decide_stop, decide_pass}
use Rattle.negotiation.proofs.Goings.{object_in}

-- a trouble decides these, and the result is that trouble
pub record BreaksOff (ts : List Trouble) (r : Result (Unit {0}) Trouble) : Type 0 where
  pub failed : is_err r ≡ true
  pub decided : decide ts ≡ trouble_of r

pub more_decided : (ts us : List Trouble) (r : Result (Unit {0}) Trouble) → is_err r ≡ true → decide ts ≡ trouble_of r → decide (ts ++ us) ≡ trouble_of r
more_decided ts us (Ok u) e d = absurd (cc)
more_decided ts us (Err t) e d = decide_stop ts us t d

pub fine : (r : Result (Unit {0}) Trouble) → is_err r ≡ false → trouble_of r ≡ None
fine (Ok u) e = refl
fine (Err t) e = absurd (cc)

pub is_fine : (r : Result (Unit {0}) Trouble) → is_err r ≡ false → r ≡ Ok tt
is_fine (Ok u) e = refl
is_fine (Err t) e = absurd (cc)

no_items : {P : Type 0} (r : Result (Unit {0}) Trouble) → is_err r ≡ true → is_ok r ≡ true → P
no_items (Ok u) e o = absurd (cc)
no_items (Err t) e o = absurd (cc)

pub broken_went : {ts : List Trouble} {xs old new : List Item} {r : Result (Unit {0}) Trouble} → BreaksOff ts r → Went ts xs old new r
broken_went {ts} {xs} {old} {new} {r} s = record { decided = s.decided; added = λ o. no_items r s.failed o }

-- what lies at an object itself decides, or does not
object_decided : {X : Type 0} (u : Bool) (t : Trouble) (o : Option X) (f : X → List Trouble) (r : Result (Unit {0}) Trouble) → is_err r ≡ true → Noted (object_troubles u t o (λ x. [])) r → decide (object_troubles u t o f) ≡ trouble_of r
unfolding object_troubles
object_decided u t None f r e n = n.decided
object_decided u t (Some x) f r e n = more_decided (one_if u t) (f x) r e (ap decide (sym (append-nil (one_if u t))) ∙ n.decided)

pub object_breaks : {X : Type 0} (u : Bool) (t : Trouble) (o : Option X) (f : X → List Trouble) {r : Result (Unit {0}) Trouble} → is_err r ≡ true → Noted (object_troubles u t o (λ x. [])) r → BreaksOff (object_troubles u t o f) r
object_breaks {X} u t o f {r} e n = record { failed = e; decided = object_decided u t o f r e n }

unoffered : {X : Type 0} (u : Bool) (t : Trouble) (o : Option X) (f : X → List Trouble) (h : X → List Item) (old new : List Item) (r : Result (Unit {0}) Trouble) → is_err r ≡ false → Noted (object_troubles u t o (λ x. [])) r → o ≡ None → new ≡ old → Went (object_troubles u t o f) (within o h) old new (Ok tt)
unfolding object_troubles within
unoffered u t None f h old new r e n i s = record { decided = n.decided ∙ fine r e; added = λ _. ap fitted (s ∙ sym (append-nil old)) }
unoffered u t (Some x) f h old new r e n i s = absurd (cc)

pub object_unoffered : {X : Type 0} (u : Bool) (t : Trouble) (o : Option X) (f : X → List Trouble) (h : X → List Item) {old : List Item} {r : Result (Unit {0}) Trouble} → is_err r ≡ false → Noted (object_troubles u t o (λ x. [])) r → o ≡ None → Went (object_troubles u t o f) (within o h) old old (Ok tt)
object_unoffered {X} u t o f h {old} {r} e n i = unoffered u t o f h old old r e n i refl

object_quiet : {X : Type 0} (u : Bool) (t : Trouble) (o : Option X) (x : X) (r : Result (Unit {0}) Trouble) → is_err r ≡ false → Noted (object_troubles u t o (λ x. [])) r → o ≡ Some x → decide (one_if u t) ≡ None
unfolding object_troubles
object_quiet u t None x r e n i = absurd (cc)
object_quiet u t (Some y) x r e n i = ap decide (sym (append-nil (one_if u t))) ∙ n.decided ∙ fine r e

pub object_offered : {X : Type 0} (u : Bool) (t : Trouble) (o : Option X) {x : X} (f : X → List Trouble) (h : X → List Item) {old new : List Item} {r s : Result (Unit {0}) Trouble} → is_err r ≡ false → Noted (object_troubles u t o (λ x. [])) r → o ≡ Some x → Went (f x) (h x) old new s → Went (object_troubles u t o f) (within o h) old new s
object_offered {X} u t o {x} f h {old} {new} {r} {s} e n i w =
    object_in u t o x f h old new s (record { decided = object_quiet u t o x r e n i }) (sym i) w

inside_decided : {X : Type 0} (u : Bool) (t : Trouble) (o : Option X) (x : X) (f : X → List Trouble) (s : Result (Unit {0}) Trouble) → decide (one_if u t) ≡ None → o ≡ Some x → decide (f x) ≡ trouble_of s → decide (object_troubles u t o f) ≡ trouble_of s
unfolding object_troubles
inside_decided u t o x f s n i d = ap (λ y. decide (one_if u t ++ reached t y f)) i ∙ decide_pass (one_if u t) (f x) n ∙ d

pub inside_breaks : {X : Type 0} (u : Bool) (t : Trouble) (o : Option X) {x : X} (f : X → List Trouble) {r s : Result (Unit {0}) Trouble} → is_err r ≡ false → Noted (object_troubles u t o (λ x. [])) r → o ≡ Some x → BreaksOff (f x) s → BreaksOff (object_troubles u t o f) s
inside_breaks {X} u t o {x} f {r} {s} e n i w = record { failed = w.failed; decided = inside_decided u t o x f s (object_quiet u t o x r e n i) i w.decided }

-- behind a trouble that decides nothing else does
decided_first : (t : Trouble) (ts us : List Trouble) (e : Exception) → t.exception ≡ e → e ≢ Exception.Ignore → decide (t ∷ ts) ≡ decide (t ∷ us)
decided_first t ts us Exception.Fail h n = ap (λ y. decided_by y t (decide ts)) h ∙ sym (ap (λ y. decided_by y t (decide us)) h)
decided_first t ts us Exception.Ignore h n = absurd (n refl)
decided_first t ts us Exception.NextStream h n = ap (λ y. decided_by y t (decide ts)) h ∙ sym (ap (λ y. decided_by y t (decide us)) h)

decides_here : (t : Trouble) (ts : List Trouble) (e : Exception) → t.exception ≡ e → e ≢ Exception.Ignore → decide (t ∷ ts) ≡ Some t
decides_here t ts Exception.Fail h n = ap (λ y. decided_by y t (decide ts)) h
decides_here t ts Exception.Ignore h n = absurd (n refl)
decides_here t ts Exception.NextStream h n = ap (λ y. decided_by y t (decide ts)) h

-- where an unknown member decides, it does so whatever the word means
pub asked_noted : {X : Type 0} (u : Bool) (t : Trouble) (e : Exception) (m : Option X) {o : Option X} {r : Result (Unit {0}) Trouble} → t.exception ≡ e → o ≡ asked u e m → Noted (object_troubles u t o (λ x. [])) r → Noted (object_troubles u t m (λ x. [])) r
unfolding object_troubles
asked_noted u t Exception.Ignore m h q n = rw (sym q) n
asked_noted false t Exception.Fail m h q n = rw (sym q) n
asked_noted false t Exception.NextStream m h q n = rw (sym q) n
asked_noted true t Exception.Fail m {o} h q n = record { decided = decided_first t (reached t m (λ x. [])) (reached t o (λ x. [])) Exception.Fail h (λ z. cc) ∙ n.decided }
asked_noted true t Exception.NextStream m {o} h q n = record { decided = decided_first t (reached t m (λ x. [])) (reached t o (λ x. [])) Exception.NextStream h (λ z. cc) ∙ n.decided }

quiet_first : {P : Type 0} (t : Trouble) (ts : List Trouble) (e : Exception) (r : Result (Unit {0}) Trouble) → t.exception ≡ e → e ≢ Exception.Ignore → is_err r ≡ false → decide (t ∷ ts) ≡ trouble_of r → P
quiet_first t ts e r h n f d = let z : Some t ≡ None = sym (decides_here t ts e h n) ∙ d ∙ fine r f in absurd (cc)

-- where no trouble decided, the scanner was asked for what is meant
pub asked_all : {X : Type 0} (u : Bool) (t : Trouble) (e : Exception) (m : Option X) {o : Option X} {r : Result (Unit {0}) Trouble} → t.exception ≡ e → is_err r ≡ false → Noted (object_troubles u t o (λ x. [])) r → o ≡ asked u e m → o ≡ m
unfolding object_troubles
asked_all u t Exception.Ignore m h f n q = q
asked_all false t Exception.Fail m h f n q = q
asked_all false t Exception.NextStream m h f n q = q
asked_all true t Exception.Fail m {o} {r} h f n q = quiet_first t (reached t o (λ x. [])) Exception.Fail r h (λ z. cc) f n.decided
asked_all true t Exception.NextStream m {o} {r} h f n q = quiet_first t (reached t o (λ x. [])) Exception.NextStream r h (λ z. cc) f n.decided

-- an object with nothing inside: a trouble by its unknown member is the one by its word too
decided_twice : (t : Trouble) (e : Exception) → t.exception ≡ e → decide (t ∷ t ∷ []) ≡ decide (t ∷ [])
decided_twice t Exception.Fail h = ap (λ y. decided_by y t (decide (t ∷ []))) h ∙ sym (ap (λ y. decided_by y t None) h)
decided_twice t Exception.Ignore h = ap (λ y. decided_by y t (decide (t ∷ []))) h
decided_twice t Exception.NextStream h = ap (λ y. decided_by y t (decide (t ∷ []))) h ∙ sym (ap (λ y. decided_by y t None) h)

pub object_noted : {X : Type 0} (u : Bool) (t : Trouble) (o : Option X) (r : Result (Unit {0}) Trouble) {b : Bool} → b ≡ cond u true (not (is_some o)) → Noted (one_if b t) r → Noted (object_troubles u t o (λ x. [])) r
unfolding object_troubles
object_noted true t None r {b} e n = record { decided = decided_twice t t.exception refl ∙ sym (ap (λ y. decide (one_if y t)) e) ∙ n.decided }
object_noted true t (Some x) r {b} e n = record { decided = sym (ap (λ y. decide (one_if y t)) e) ∙ n.decided }
object_noted false t None r {b} e n = record { decided = sym (ap (λ y. decide (one_if y t)) e) ∙ n.decided }
object_noted false t (Some x) r {b} e n = record { decided = sym (ap (λ y. decide (one_if y t)) e) ∙ n.decided }
