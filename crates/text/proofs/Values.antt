-- A text without faults writes one value, and its tokens stand in order.
use Rattle.std.proofs.Common.{◌≡◌, ℕ, zero, suc, ◌+◌, ◌<◌, ◌≤◌, Bool, true, false, cond, eqb, leb, List, [], ◌∷◌, length, Ok, sym, refl, ap, ◌∙◌, subst, arith}
use Rattle.std.proofs.lemmas.Bool.{cond-true, cond-false}
use Rattle.std.proofs.lemmas.Bool.Decides.{nat_tests}
use Rattle.text.specs.declared.fault.TextFault.TheVariants.{Forbidden}
use Rattle.text.specs.Bytes.{white, digit, hex_digit, exponent_mark, sign_mark, short_escape, between}
use Rattle.text.specs.Limits.{most_bytes, most_levels}
use Rattle.text.specs.Machine.{Kind, Frame, Part, Step, Tape, whole, fraction, exponent, value, first, digits, digit1, sign, after, chars, escape, hex, tail, literal, member, colon, members, entries, go, says, forbidden, too_deep, good, fault, event, ending, tails, hexes, letters, lead, opens, begins, follows, step, over, ends, run, tape, outcome, begin_object, end_object, begin_array, end_array, name, string, number, literal_true, literal_false, literal_null}
use Rattle.text.specs.Tree.{Json, Members, Entries, scalar, object, array, no_member, one_member, no_entry, one_entry, events, member_events, entry_events, Scalar, Proper, ProperMembers, ProperEntries}
use Rattle.text.specs.Value.{ValueOf, InOrder, MembersInOrder, EntriesInOrder, WritesOne}
use Rattle.text.proofs.Steps.{run_go, run_says, run_forbidden, run_deep}
use Rattle.text.proofs.Judging.{short, long}

-- the events of a value, and then a tape that has P
record ValueThen (P : Tape → Type 0) (u : Tape) : Type 0 where
  v : Json
  proper : Proper v
  rest : Tape
  is : u ≡ events v rest
  more : P rest

-- the events of the members that are left of an object, its end, and then a tape that has P
record MembersThen (P : Tape → Type 0) (u : Tape) : Type 0 where
  ms : Members
  proper : ProperMembers ms
  j : ℕ
  rest : Tape
  is : u ≡ member_events ms (event end_object j rest)
  more : P rest

-- the events of the entries that are left of an array, its end, and then a tape that has P
record EntriesThen (P : Tape → Type 0) (u : Tape) : Type 0 where
  vs : Entries
  proper : ProperEntries vs
  j : ℕ
  rest : Tape
  is : u ≡ entry_events vs (event end_array j rest)
  more : P rest

-- the tapes without faults that a stack can make
Shaped : List Frame → Tape → Type 0
Shaped [] u = u ≡ good
Shaped (value d ∷ k) u = ValueThen (Shaped k) u
Shaped (first ∷ k) u = Shaped k u
Shaped (digits p ∷ k) u = Shaped k u
Shaped (digit1 p ∷ k) u = Shaped k u
Shaped (sign ∷ k) u = Shaped k u
Shaped (after p ∷ k) u = Shaped k u
Shaped (chars ∷ k) u = Shaped k u
Shaped (escape ∷ k) u = Shaped k u
Shaped (hex n ∷ k) u = Shaped k u
Shaped (tail low high n ∷ k) u = Shaped k u
Shaped (literal cs ∷ k) u = Shaped k u
Shaped (member d ∷ k) u = MembersThen (Shaped k) u
Shaped (colon d ∷ k) u = ValueThen (MembersThen (Shaped k)) u
Shaped (members f d ∷ k) u = MembersThen (Shaped k) u
Shaped (entries f d ∷ k) u = EntriesThen (Shaped k) u

-- a step keeps to P: with the event that it makes, each tape of the stack that it leads to has P
data Keeps (P : Tape → Type 0) : Step → Type 0 where
  goes : {l : List Frame} → ((u : Tape) → Shaped l u → P u) → Keeps P (go l)
  tells : {n : Kind} {l : List Frame} → ((i : ℕ) (u : Tape) → Shaped l u → P (event n i u)) → Keeps P (says n l)
  stops : Keeps P forbidden
  no_level : Keeps P too_deep

module _ {P : Tape → Type 0} where
  both : (c : Bool) {x y : Step} → Keeps P x → Keeps P y → Keeps P (cond c x y)
  both true p q = p
  both false p q = q

  widen : {Q : Tape → Type 0} {x : Step} → ((u : Tape) → P u → Q u) → Keeps P x → Keeps Q x
  widen h (goes p) = goes (λ u s. h u (p u s))
  widen h (tells p) = tells (λ i u s. h _ (p i u s))
  widen h stops = stops
  widen h no_level = no_level

  gone : {l : List Frame} → Keeps P (go l) → (u : Tape) → Shaped l u → P u
  gone (goes p) = p

  told : {n : Kind} {l : List Frame} → Keeps P (says n l) → (i : ℕ) (u : Tape) → Shaped l u → P (event n i u)
  told (tells p) = p

-- a value, a member or an entry before a tape that has P
module _ {P : Tape → Type 0} where
  a_scalar : (x : Kind) → Scalar x → (i : ℕ) (u : Tape) → P u → ValueThen P (event x i u)
  unfolding events Proper
  a_scalar x s i u p = record { v = scalar x i; proper = s; rest = u; is = refl; more = p }

  an_object : (i : ℕ) (u : Tape) → MembersThen P u → ValueThen P (event begin_object i u)
  unfolding events Proper
  an_object i u m = record { v = object i m.ms m.j; proper = m.proper; rest = m.rest; is = ap (event begin_object i) m.is; more = m.more }

  an_array : (i : ℕ) (u : Tape) → EntriesThen P u → ValueThen P (event begin_array i u)
  unfolding events Proper
  an_array i u m = record { v = array i m.vs m.j; proper = m.proper; rest = m.rest; is = ap (event begin_array i) m.is; more = m.more }

  members_end : (i : ℕ) (u : Tape) → P u → MembersThen P (event end_object i u)
  unfolding member_events ProperMembers
  members_end i u p = record { ms = no_member; proper = tt; j = i; rest = u; is = refl; more = p }

  a_member : (i : ℕ) (u : Tape) → ValueThen (MembersThen P) u → MembersThen P (event name i u)
  unfolding member_events ProperMembers
  a_member i u x = record {
    ms = one_member i x.v x.more.ms;
    proper = (x.proper, x.more.proper);
    j = x.more.j;
    rest = x.more.rest;
    is = ap (event name i) (x.is ∙ ap (events x.v) x.more.is);
    more = x.more.more;
  }

  entries_end : (i : ℕ) (u : Tape) → P u → EntriesThen P (event end_array i u)
  unfolding entry_events ProperEntries
  entries_end i u p = record { vs = no_entry; proper = tt; j = i; rest = u; is = refl; more = p }

  an_entry : (u : Tape) → ValueThen (EntriesThen P) u → EntriesThen P u
  unfolding entry_events ProperEntries
  an_entry u x = record {
    vs = one_entry x.v x.more.vs;
    proper = (x.proper, x.more.proper);
    j = x.more.j;
    rest = x.more.rest;
    is = x.is ∙ ap (events x.v) x.more.is;
    more = x.more.more;
  }

module _ (k : List Frame) where
  opens_object : (d : ℕ) → Keeps (ValueThen (Shaped k)) (opens d (λ e. says begin_object (members true e ∷ k)))
  unfolding Shaped
  opens_object zero = no_level
  opens_object (suc d) = tells an_object

  opens_array : (d : ℕ) → Keeps (ValueThen (Shaped k)) (opens d (λ e. says begin_array (entries true e ∷ k)))
  unfolding Shaped
  opens_array zero = no_level
  opens_array (suc d) = tells an_array

  begins_keeps : (d b : ℕ) → Keeps (ValueThen (Shaped k)) (begins d b k)
  unfolding Shaped
  begins_keeps d b =
      both (eqb b 123) (opens_object d)
      (both (eqb b 91) (opens_array d)
      (both (eqb b 34) (tells (a_scalar string tt))
      (both (eqb b 45) (tells (a_scalar number tt))
      (both (eqb b 48) (tells (a_scalar number tt))
      (both (digit b) (tells (a_scalar number tt))
      (both (eqb b 116) (tells (a_scalar literal_true tt))
      (both (eqb b 102) (tells (a_scalar literal_false tt))
      (both (eqb b 110) (tells (a_scalar literal_null tt)) stops))))))))

  tails_keep : (n : ℕ) → Keeps (Shaped k) (go (tails n k))
  unfolding Shaped
  tails_keep zero = goes (λ u s. s)
  tails_keep (suc n) = goes (λ u s. s)

  hexes_keep : (n : ℕ) → Keeps (Shaped k) (go (hexes n k))
  unfolding Shaped
  hexes_keep zero = goes (λ u s. s)
  hexes_keep (suc n) = goes (λ u s. s)

  letters_keep : (cs : List ℕ) → Keeps (Shaped k) (go (letters cs k))
  unfolding Shaped
  letters_keep [] = goes (λ u s. s)
  letters_keep (c ∷ cs) = goes (λ u s. s)

  lead_keeps : (b : ℕ) → Keeps (Shaped k) (lead b k)
  unfolding Shaped
  lead_keeps b =
      both (between 194 223 b) (goes (λ u s. s))
      (both (eqb b 224) (goes (λ u s. s))
      (both (eqb b 237) (goes (λ u s. s))
      (both (between 225 239 b) (goes (λ u s. s))
      (both (eqb b 240) (goes (λ u s. s))
      (both (between 241 243 b) (goes (λ u s. s))
      (both (eqb b 244) (goes (λ u s. s)) stops))))))

  follows_keeps : (p : Part) (b : ℕ) (x : Step) → Keeps (Shaped k) x → Keeps (Shaped k) (follows p b k x)
  unfolding Shaped
  follows_keeps whole b x h = both (eqb b 46) (goes (λ u s. s)) (both (exponent_mark b) (goes (λ u s. s)) h)
  follows_keeps fraction b x h = both (exponent_mark b) (goes (λ u s. s)) h
  follows_keeps exponent b x h = h

-- each byte keeps to the tapes of the stack
step_keeps : (k : List Frame) (b : ℕ) → Keeps (Shaped k) (step k b)
unfolding step Shaped
step_keeps [] b = both (white b) (goes (λ u s. s)) stops
step_keeps (value d ∷ k) b = both (white b) (goes (λ u s. s)) (begins_keeps k d b)
step_keeps (first ∷ k) b = both (eqb b 48) (goes (λ u s. s)) (both (digit b) (goes (λ u s. s)) stops)
step_keeps (digits p ∷ k) b = both (digit b) (goes (λ u s. s)) (follows_keeps k p b (step k b) (step_keeps k b))
step_keeps (digit1 p ∷ k) b = both (digit b) (goes (λ u s. s)) stops
step_keeps (sign ∷ k) b = both (sign_mark b) (goes (λ u s. s)) (both (digit b) (goes (λ u s. s)) stops)
step_keeps (after p ∷ k) b = follows_keeps k p b (step k b) (step_keeps k b)
step_keeps (chars ∷ k) b = both (eqb b 34) (goes (λ u s. s)) (both (eqb b 92) (goes (λ u s. s)) (both (leb b 31) stops (both (leb b 127) (goes (λ u s. s)) (lead_keeps k b))))
step_keeps (escape ∷ k) b = both (short_escape b) (goes (λ u s. s)) (both (eqb b 117) (goes (λ u s. s)) stops)
step_keeps (hex n ∷ k) b = both (hex_digit b) (hexes_keep k n) stops
step_keeps (tail low high n ∷ k) b = both (between low high b) (tails_keep k n) stops
step_keeps (literal [] ∷ k) b = stops
step_keeps (literal (c ∷ cs) ∷ k) b = both (eqb b c) (letters_keep k cs) stops
step_keeps (member d ∷ k) b = both (white b) (goes (λ u s. s)) (both (eqb b 34) (tells a_member) stops)
step_keeps (colon d ∷ k) b = both (white b) (goes (λ u s. s)) (both (eqb b 58) (goes (λ u s. s)) stops)
step_keeps (members true d ∷ k) b = both (white b) (goes (λ u s. s)) (both (eqb b 125) (tells members_end) (both (eqb b 34) (tells a_member) stops))
step_keeps (members false d ∷ k) b = both (white b) (goes (λ u s. s)) (both (eqb b 125) (tells members_end) (both (eqb b 44) (goes (λ u s. s)) stops))
step_keeps (entries true d ∷ k) b = both (white b) (goes (λ u s. s)) (both (eqb b 93) (tells entries_end) (widen an_entry (begins_keeps (entries false d ∷ k) d b)))
step_keeps (entries false d ∷ k) b = both (white b) (goes (λ u s. s)) (both (eqb b 93) (tells entries_end) (both (eqb b 44) (goes an_entry) stops))

over_shaped : (k : List Frame) → over k ≡ true → Shaped k good
unfolding over Shaped
over_shaped [] e = refl
over_shaped (value d ∷ k) e = cc
over_shaped (first ∷ k) e = cc
over_shaped (digits p ∷ k) e = over_shaped k e
over_shaped (digit1 p ∷ k) e = cc
over_shaped (sign ∷ k) e = cc
over_shaped (after p ∷ k) e = over_shaped k e
over_shaped (chars ∷ k) e = cc
over_shaped (escape ∷ k) e = cc
over_shaped (hex n ∷ k) e = cc
over_shaped (tail low high n ∷ k) e = cc
over_shaped (literal cs ∷ k) e = cc
over_shaped (member d ∷ k) e = cc
over_shaped (colon d ∷ k) e = cc
over_shaped (members f d ∷ k) e = cc
over_shaped (entries f d ∷ k) e = cc

at_end : (k : List Frame) (i : ℕ) (x : Bool) → over k ≡ x → ending (ends k i) ≡ Ok tt → Shaped k (ends k i)
at_end k i true q e = subst (Shaped k) (sym (cond-true (over k) good (fault (Forbidden i)) q)) (over_shaped k q)
at_end k i false q e = cc (ap ending (cond-false (over k) good (fault (Forbidden i)) q))

by_step : (b : ℕ) (bs : List ℕ) (i : ℕ) (k : List Frame) → ((l : List Frame) → ending (run bs (suc i) l) ≡ Ok tt → Shaped l (run bs (suc i) l)) → (x : Step) → step k b ≡ x → ending (run (b ∷ bs) i k) ≡ Ok tt → Shaped k (run (b ∷ bs) i k)
by_step b bs i k ih (go l) q e =
    let r = run_go b bs i k l q in
    subst (Shaped k) (sym r) (gone (subst (Keeps (Shaped k)) q (step_keeps k b)) _ (ih l (sym (ap ending r) ∙ e)))
by_step b bs i k ih (says n l) q e =
    let r = run_says b bs i n k l q in
    subst (Shaped k) (sym r) (told (subst (Keeps (Shaped k)) q (step_keeps k b)) i _ (ih l (sym (ap ending r) ∙ e)))
by_step b bs i k ih forbidden q e = cc (ap ending (run_forbidden b bs i k q))
by_step b bs i k ih too_deep q e = cc (ap ending (run_deep b bs i k q))

-- what a stack makes of a text that ends without a fault
run_shaped : (t : List ℕ) (i : ℕ) (k : List Frame) → ending (run t i k) ≡ Ok tt → Shaped k (run t i k)
unfolding run
run_shaped [] i k e = at_end k i (over k) refl e
run_shaped (b ∷ bs) i k e = by_step b bs i k (λ l. run_shaped bs (suc i) l) (step k b) refl e

some_value : (t : List ℕ) → ending (tape t) ≡ Ok tt → (v : Json) × ValueOf t v
unfolding tape Shaped
some_value t e =
    let s : ValueThen (Shaped []) (tape t) = run_shaped t 0 (value most_levels ∷ []) e in
    (s.v, record { proper = s.proper; tokens = s.is ∙ ap (events s.v) s.more })

read_within : (t : List ℕ) (x : Bool) → leb (length t) most_bytes ≡ x → outcome t ≡ Ok tt → length t ≤ most_bytes
read_within t true q e = grind (arith, nat_tests)
read_within t false q e = let h : most_bytes < length t = grind (arith, nat_tests) in cc (long t h)

-- the offsets of a tape rise, from a on and before b
Rising : ℕ → ℕ → Tape → Type 0
Rising a b good = a ≤ b
Rising a b (fault e) = a ≤ b
Rising a b (event x i u) = (a ≤ i) × (i < b) × Rising (suc i) b u

lower : (a c b : ℕ) (u : Tape) → a ≤ c → Rising c b u → Rising a b u
unfolding Rising
lower a c b good h r = omega arith
lower a c b (fault e) h r = omega arith
lower a c b (event x i u) h r = (omega arith, r.1, r.2)

end_rising : (k : List Frame) (i n : ℕ) (x : Bool) → over k ≡ x → i ≤ n → Rising i n (ends k i)
unfolding Rising
end_rising k i n true q h = subst (Rising i n) (sym (cond-true (over k) good (fault (Forbidden i)) q)) h
end_rising k i n false q h = subst (Rising i n) (sym (cond-false (over k) good (fault (Forbidden i)) q)) h

step_rising : (b : ℕ) (bs : List ℕ) (i n : ℕ) (k : List Frame) → i < n → ((l : List Frame) → Rising (suc i) n (run bs (suc i) l)) → (x : Step) → step k b ≡ x → Rising i n (run (b ∷ bs) i k)
unfolding Rising
step_rising b bs i n k h ih (go l) q = subst (Rising i n) (sym (run_go b bs i k l q)) (lower i (suc i) n (run bs (suc i) l) (omega arith) (ih l))
step_rising b bs i n k h ih (says x l) q = subst (Rising i n) (sym (run_says b bs i x k l q)) (omega arith, h, ih l)
step_rising b bs i n k h ih forbidden q = subst (Rising i n) (sym (run_forbidden b bs i k q)) (omega arith)
step_rising b bs i n k h ih too_deep q = subst (Rising i n) (sym (run_deep b bs i k q)) (omega arith)

run_rising : (t : List ℕ) (i n : ℕ) (k : List Frame) → n ≡ i + length t → Rising i n (run t i k)
unfolding run
run_rising [] i n k e = end_rising k i n (over k) refl (omega arith)
run_rising (b ∷ bs) i n k e = step_rising b bs i n k (omega arith) (λ l. run_rising bs (suc i) n l (omega arith)) (step k b) refl

-- an offset that the tokens with P stand before, and a tape whose offsets rise from there on
record Parted (P : ℕ → Type 0) (b : ℕ) (u : Tape) : Type 0 where
  at : ℕ
  before : P at
  from : Rising at b u

-- a later bound
longer : (a b c : ℕ) (v : Json) → b ≤ c → InOrder a v b → InOrder a v c
unfolding InOrder
longer a b c (scalar x i) h o = (o.0, omega arith)
longer a b c (object i ms j) h o = (o.0, o.1, omega arith)
longer a b c (array i vs j) h o = (o.0, o.1, omega arith)

longer_members : (a b c : ℕ) (ms : Members) → b ≤ c → MembersInOrder a ms b → MembersInOrder a ms c
unfolding MembersInOrder
longer_members a b c no_member h o = omega arith
longer_members a b c (one_member i v ms) h o = (o.0, (o.1.0, o.1.1, longer_members o.1.0 b c ms h o.1.2))

longer_entries : (a b c : ℕ) (vs : Entries) → b ≤ c → EntriesInOrder a vs b → EntriesInOrder a vs c
unfolding EntriesInOrder
longer_entries a b c no_entry h o = omega arith
longer_entries a b c (one_entry v vs) h o = (o.0, o.1, longer_entries o.0 b c vs h o.2)

-- where offsets rise, the tokens of a value that comes first stand in order
mutual
  unfolding events member_events entry_events Rising InOrder MembersInOrder EntriesInOrder

  part_value : (a b : ℕ) (v : Json) (u : Tape) → Rising a b (events v u) → Parted (λ c. InOrder a v c) b u
  part_value a b (scalar x i) u r = record { at = suc i; before = (r.0, omega arith); from = r.2 }
  part_value a b (object i ms j) u r =
      let p = part_members (suc i) b ms (event end_object j u) r.2 in
      record { at = suc j; before = (r.0, longer_members (suc i) p.at j ms p.from.0 p.before, omega arith); from = p.from.2 }
  part_value a b (array i vs j) u r =
      let p = part_entries (suc i) b vs (event end_array j u) r.2 in
      record { at = suc j; before = (r.0, longer_entries (suc i) p.at j vs p.from.0 p.before, omega arith); from = p.from.2 }

  part_members : (a b : ℕ) (ms : Members) (u : Tape) → Rising a b (member_events ms u) → Parted (λ c. MembersInOrder a ms c) b u
  part_members a b no_member u r = record { at = a; before = omega arith; from = r }
  part_members a b (one_member i v ms) u r =
      let p = part_value (suc i) b v (member_events ms u) r.2 in
      let q = part_members p.at b ms u p.from in
      record { at = q.at; before = (r.0, (p.at, p.before, q.before)); from = q.from }

  part_entries : (a b : ℕ) (vs : Entries) (u : Tape) → Rising a b (entry_events vs u) → Parted (λ c. EntriesInOrder a vs c) b u
  part_entries a b no_entry u r = record { at = a; before = omega arith; from = r }
  part_entries a b (one_entry v vs) u r =
      let p = part_value a b v (entry_events vs u) r in
      let q = part_entries p.at b vs u p.from in
      record { at = q.at; before = (p.at, p.before, q.before); from = q.from }

in_order : (t : List ℕ) (v : Json) → tape t ≡ events v good → InOrder 0 v (length t)
unfolding tape Rising
in_order t v e =
    let p = part_value 0 (length t) v good (subst (Rising 0 (length t)) e (run_rising t 0 (length t) (value most_levels ∷ []) (omega arith))) in
    longer 0 p.at (length t) v p.from p.before

-- no value begins with the end of an array
no_end : (v : Json) (i : ℕ) (u x : Tape) → Proper v → event end_array i u ≡ events v x → ⊥
unfolding events Proper
no_end (scalar y j) i u x p e = let q : y ≡ end_array = cc in subst Scalar q p
no_end (object j ms l) i u x p e = cc
no_end (array j vs l) i u x p e = cc

-- from its events a value and the tape after it are known
mutual
  unfolding events member_events entry_events Proper ProperMembers ProperEntries

  same_value : (v w : Json) (u x : Tape) → Proper v → Proper w → events v u ≡ events w x → (v ≡ w) × (u ≡ x)
  same_value (scalar y i) (scalar z j) u x p q e = (cc, cc)
  same_value (scalar y i) (object j ns n) u x p q e = let h : y ≡ begin_object = cc in absurd (subst Scalar h p)
  same_value (scalar y i) (array j ws n) u x p q e = let h : y ≡ begin_array = cc in absurd (subst Scalar h p)
  same_value (object i ms m) (scalar z j) u x p q e = let h : z ≡ begin_object = cc in absurd (subst Scalar h q)
  same_value (object i ms m) (object j ns n) u x p q e = let h = same_members ms ns m n u x p q (cc) in (cc (h.0, h.1), h.2)
  same_value (object i ms m) (array j ws n) u x p q e = cc
  same_value (array i vs m) (scalar z j) u x p q e = let h : z ≡ begin_array = cc in absurd (subst Scalar h q)
  same_value (array i vs m) (object j ns n) u x p q e = cc
  same_value (array i vs m) (array j ws n) u x p q e = let h = same_entries vs ws m n u x p q (cc) in (cc (h.0, h.1), h.2)

  same_members : (ms ns : Members) (i j : ℕ) (u x : Tape) → ProperMembers ms → ProperMembers ns → member_events ms (event end_object i u) ≡ member_events ns (event end_object j x) → (ms ≡ ns) × (i ≡ j) × (u ≡ x)
  same_members no_member no_member i j u x p q e = (refl, cc, cc)
  same_members no_member (one_member m w ns) i j u x p q e = cc
  same_members (one_member n v ms) no_member i j u x p q e = cc
  same_members (one_member n v ms) (one_member m w ns) i j u x p q e =
      let f = same_value v w (member_events ms (event end_object i u)) (member_events ns (event end_object j x)) p.0 q.0 (cc) in
      let g = same_members ms ns i j u x p.1 q.1 f.1 in
      (cc (f.0, g.0), g.1, g.2)

  same_entries : (vs ws : Entries) (i j : ℕ) (u x : Tape) → ProperEntries vs → ProperEntries ws → entry_events vs (event end_array i u) ≡ entry_events ws (event end_array j x) → (vs ≡ ws) × (i ≡ j) × (u ≡ x)
  same_entries no_entry no_entry i j u x p q e = (refl, cc, cc)
  same_entries no_entry (one_entry w ws) i j u x p q e = absurd (no_end w i u _ q.0 e)
  same_entries (one_entry v vs) no_entry i j u x p q e = absurd (no_end v j x _ p.0 (sym e))
  same_entries (one_entry v vs) (one_entry w ws) i j u x p q e =
      let f = same_value v w (entry_events vs (event end_array i u)) (entry_events ws (event end_array j x)) p.0 q.0 e in
      let g = same_entries vs ws i j u x p.1 q.1 f.1 in
      (cc (f.0, g.0), g.1, g.2)

-- a text without faults writes one value, and its tokens stand in order
pub writes_one : WritesOne
writes_one t = record {
  some = λ e. some_value t (sym (short t (read_within t (leb (length t) most_bytes) refl e)) ∙ e);
  one = λ v w p q. (same_value v w good good p.proper q.proper (sym p.tokens ∙ q.tokens)).0;
  ordered = λ v p. in_order t v p.tokens;
}
