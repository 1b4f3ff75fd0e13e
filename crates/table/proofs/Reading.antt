-- Parts of a task read one after the other.
use Rattle.std.proofs.Common.{◌≡◌, ℕ, ◌+◌, ◌<◌, Bool, true, false, eqb, List, ◌∷◌, ◌++◌, drop, IfOk, Some, None, Ok, Err, Result, sym, ap, ◌∙◌, append_assoc, append-nil, add-zero, add_assoc, zero-add, arith, Bor}
use Rattle.std.proofs.lemmas.Bool.Decides.{nat_tests}
use Rattle.text.specs.declared.reader.Reader.{Reader}
use Rattle.text.specs.declared.token.Token.{Token}
use Rattle.text.specs.declared.token.Member.{Member}
use Rattle.text.specs.declared.token.Member.TheVariants.{Named, End}
use Rattle.text.specs.declared.token.Placed.{Placed}
use Rattle.text.specs.Machine.{value, members, entries as entry_frame, event, name, string, end_object, end_array}
use Rattle.text.specs.Strings.{stands}
use Rattle.text.specs.Parts.{string_part}
use Rattle.text.specs.Ahead.{Stack, Passed, TokenRead, NameRead, ReadsMember, ReadsEntry}
use Rattle.table.specs.declared.level.Level.{Level}
use Rattle.table.specs.declared.keys.Key.{Key}
use Rattle.table.specs.declared.record.Record.{Record}
use Rattle.table.specs.declared.draft.Draft.{Draft}
use Rattle.table.specs.declared.tally.Tally.{Tally}
use Rattle.table.specs.declared.read.Reading.{Reading}
use Rattle.table.specs.declared.fault.TableFault.{TableFault}
use Rattle.table.specs.declared.fault.FormRule.TheVariants.{WrongKind, NamesakeMissing}
use Rattle.table.specs.Words.{key_spelled}
use Rattle.table.specs.Drafts.{taken}
use Rattle.table.specs.Steps.{Takes}
use Rattle.table.specs.Form.{Lot, ◌⊕◌, nothing, doing, Place, entries, closed, is_value_name, given}
use Rattle.table.specs.Works.{States, Works, Stops, Reserved, Closes, ReadsObject, PartsRead, ReadsParts, ReadsKnown, at_members, at_value, at_entries, at_name}
use Rattle.table.proofs.Joining.{stay, then, then_stops, token, token_fails, stops_is, on_works, becomes, starts_as, on_stops, stops_as}
use Rattle.table.proofs.Rules.{one_more, name_comes, string_comes, object_ends, namesake_missing}
use Rattle.table.proofs.Fillings.{moved, fills_nothing, fills_then, fills_after, fills_close}

abbrev lot : List Record → ℕ → Lot
lot rs w = record { records = rs; weight = w }

sum_nothing : (b : Lot) → b ⊕ nothing ≡ b
sum_nothing b = ap (λ (rs : List Record). lot rs (b.weight + 0)) (append-nil b.records) ∙ ap (λ (w : ℕ). lot b.records w) (add-zero b.weight)

nothing_sum : (b : Lot) → nothing ⊕ b ≡ b
nothing_sum b = ap (λ (w : ℕ). lot b.records w) (zero-add b.weight)

sum_assoc : (a b c : Lot) → (a ⊕ b) ⊕ c ≡ a ⊕ (b ⊕ c)
sum_assoc a b c = ap (λ (rs : List Record). lot rs (a.weight + b.weight + c.weight)) (append_assoc a.records b.records c.records) ∙ ap (λ (w : ℕ). lot (a.records ++ (b.records ++ c.records)) w) (add_assoc a.weight b.weight c.weight)

-- something without parts
pub plain_parts : {t : List ℕ} {f g : Stack} {p q : Lot → States} {x : Reader} (r : Reading) → ((b : Lot) → Works t f g (p b) (q b) r.reader x) → PartsRead t f g p q r (moved r x)
plain_parts {q = q} {x = x} r w = record { what = nothing; works = λ b. becomes (λ ps. ap (λ m. q m ps) (sym (sum_nothing b))) (w b); fills = fills_nothing r x }

-- nothing was read
pub parts_none : {t : List ℕ} {f : Stack} {p : Lot → States} (r : Reading) → PartsRead t f f p p r r
parts_none r = plain_parts r (λ b. stay)

module _ {t : List ℕ} {f g h : Stack} {p q z : Lot → States} {r s : Reading} where
  -- more parts after them
  pub parts_then : {u : Reading} → PartsRead t f g p q r s → PartsRead t g h q z s u → PartsRead t f h p z r u
  parts_then x y = record {
    what = x.what ⊕ y.what;
    works = λ m. becomes (λ ps. ap (λ n. z n ps) (sum_assoc m x.what y.what)) (then (x.works m) (y.works (m ⊕ x.what)));
    fills = fills_then x.fills y.fills;
  }

  -- something without parts after them
  pub parts_step : {y : Reader} → PartsRead t f g p q r s → ((m : Lot) → Works t g h (q m) (z m) s.reader y) → PartsRead t f h p z r (moved s y)
  parts_step x w = parts_then x (plain_parts s w)

pub parts_stops : {t : List ℕ} {f g : Stack} {p q : Lot → States} {r s : Reading} {e : TableFault} → PartsRead t f g p q r s → ((m : Lot) → Stops t g (q m) s.reader e) → (m : Lot) → Stops t f (p m) r.reader e
parts_stops x y m = then_stops (x.works m) (y (m ⊕ x.what))

-- under a fixed rest of the stack
pub on_parts : {t : List ℕ} {f g : Stack} {p q : Lot → States} {r s : Reading} (h : Stack) → PartsRead t f g p q r s → PartsRead t (λ k. f (h k)) (λ k. g (h k)) p q r s
on_parts h x = record { what = x.what; works = λ m. on_works h (λ ps. ps) (x.works m); fills = x.fills }

-- parts after something without any
pub parts_after : {X : Type 0} {t : List ℕ} {f g : Stack} {p q : Lot → States} {y : Reader} (h : Stack) (z : X → Lot → States) (r u : Reading) (x : Result X TableFault) → ((m : Lot) → Works t f g (p m) (q m) r.reader y) → ReadsParts t g h q z (moved r y) u x → ReadsParts t f h p z r u x
parts_after {y = y} h z r u (Ok b) w o = record { what = o.what; works = λ m. then (w m) (o.works m); fills = fills_after r y o.fills }
parts_after h z r u (Err e) w o = λ m. then_stops (w m) (o m)

-- parts from a state that the code names otherwise
pub parts_as : {t : List ℕ} {f g : Stack} {p q z : Lot → States} {r s : Reading} → ((m : Lot) (ps : List Place) → p m ps ≡ q m ps) → PartsRead t f g q z r s → PartsRead t f g p z r s
parts_as e x = record { what = x.what; works = λ m. starts_as (e m) (x.works m); fills = x.fills }

-- the value of a known member
pub known_parts : (t : List ℕ) (lv : ℕ) (p : Lot → States) (key : Key) (h h' : Draft) (r : Reading) (y : Reader) (x : Result (Unit {0}) TableFault) → ((m : Lot) (ps : List Place) → p m ps ≡ at_value key h m ps) → ReadsKnown t lv key h h' r.reader y x → ReadsParts t (λ k. value lv ∷ k) (λ k. k) p (λ _. at_members h') r (moved r y) x
known_parts t lv p key h h' r y (Ok x) e w = plain_parts r (λ b. starts_as (e b) (w b))
known_parts t lv p key h h' r y (Err x) e w = λ b. stops_as (e b) (w b)

-- an object as an entry
pub object_entry : {t : List ℕ} {f : Stack} {y : Reader} (lv : ℕ) (p : States) (l : Level) (n : ℕ) (h : Draft) (r u : Reading) (x : Result (Unit {0}) TableFault) → ((m : Lot) → Works t f (λ k. members true lv ∷ k) (at_entries l n h m) (λ ps. p (entries l n (doing h m) ∷ ps)) r.reader y) → ReadsObject t lv p (moved r y) u x → ReadsParts t f (λ k. k) (at_entries l n h) (λ _. at_entries l (n + 1) h) r u x
object_entry {y = y} lv p l n h r u (Ok b) w o = record {
  what = o.what;
  works = λ m. then (w m) (becomes (λ ps. one_more l n h m o.what ps) (on_works (λ k. k) (λ ps. entries l n (doing h m) ∷ ps) o.works));
  fills = fills_after r y o.fills;
}
object_entry lv p l n h r u (Err e) w o = λ m. then_stops (w m) (on_stops (λ k. k) (λ ps. entries l n (doing h m) ∷ ps) o)

pub object_further : (t : List ℕ) (lv : ℕ) (p : States) (s u : Reading) (x : Result (Unit {0}) TableFault) (i n : ℕ) → ReadsObject t lv p s u x → i < s.reader.at → n < 37 → IfOk x (λ _. (i < u.reader.at) × (n < 37))
object_further t lv p s u (Ok b) i n y h k = let f = y.works.forth in (omega arith, k)
object_further t lv p s u (Err e) i n y h k = tt

-- the string of a member
pub string_read : (t : List ℕ) (lv i : ℕ) (raw : Bor (List ℕ)) (key : Key) (h h' : Draft) (r s : Reader) (x : Result (Unit {0}) TableFault) → r.text.now ≡ t → is_value_name key ≡ false → TokenRead lv r s (Token.String raw) i → Takes (stands raw.now) key i h h' x → ReadsKnown t lv key h h' r s x
string_read t lv i raw key h h' r s (Ok y) q e w k =
    let g : raw.now ≡ string_part (drop i t) = w.token.holds ∙ ap (λ v. string_part (drop i v)) q in
    λ b. token (at_value key h b) (at_members h' b) string i w.passed (λ ps. string_comes t h b i ps key (Some h') e (ap (λ v. taken (stands v) key i h) (sym g) ∙ k.0))
string_read t lv i raw key h h' r s (Err y) q e w k =
    let g : raw.now ≡ string_part (drop i t) = w.token.holds ∙ ap (λ v. string_part (drop i v)) q in
    λ b. stops_is k.1 (token_fails t (at_value key h b) string i WrongKind i w.passed (λ ps. string_comes t h b i ps key None e (ap (λ v. taken (stands v) key i h) (sym g) ∙ k.0)))

-- the end of an object, after a place was reserved for it and its members were read
pub object_closed : (t : List ℕ) (lv : ℕ) (f : Bool) (h0 h : Draft) (outer r u : Reading) (y : Reader) (reserved : Tally) (j : ℕ) (x : Result (Unit {0}) TableFault) → Reserved h0.level outer.tally reserved → PartsRead t (λ k. members true lv ∷ k) (λ k. members f lv ∷ k) (at_members h0) (at_members h) (record { reader = outer.reader; table = outer.table; tally = reserved }) r → Passed (λ k. members f lv ∷ k) (λ k. k) (event end_object j) r.reader y → h.level ≡ h0.level → Closes j h outer.tally reserved.used (moved r y) u x → ReadsObject t lv (at_members h0 nothing) outer u x
object_closed t lv f h0 h outer r u y reserved j (Ok x) v p e l c =
    let v' : Reserved h.level outer.tally reserved = rw l v in
    record {
      what = closed (doing h p.what) c.own;
      works = then (becomes (λ ps. ap (λ m. at_members h m ps) (nothing_sum p.what)) (p.works nothing)) (rw c.stays (token (at_members h p.what) (λ ps. given (closed (doing h p.what) c.own) ps) end_object j e (λ ps. object_ends t h p.what j ps c.own c.has)));
      fills = fills_close outer r u outer.reader y reserved p.what h v' p.fills c;
    }
object_closed t lv f h0 h outer r u y reserved j (Err x) v p e l c = then_stops (p.works nothing) (stops_is c.1 (token_fails t (at_members h (nothing ⊕ p.what)) end_object j NamesakeMissing j e (λ ps. namesake_missing t h (nothing ⊕ p.what) j ps c.0)))

pub next_first : (n : ℕ) → eqb (n + 1) 0 ≡ false
next_first n = grind (arith, nat_tests)

pub entry_goes : (f : Bool) (r s : Reader) (b : Bool) → b ≡ true → ReadsEntry f r s (Ok b) → (d : ℕ) → Passed (λ k. entry_frame f d ∷ k) (λ k. value d ∷ entry_frame false d ∷ k) (λ u. u) r s
entry_goes f r s b e p = let q : ReadsEntry f r s (Ok true) = rw e at p in q.1

pub entries_over : (f : Bool) (r s : Reader) (b : Bool) → b ≡ false → ReadsEntry f r s (Ok b) → (j : ℕ) × (s.at ≡ j + 1) × ((d : ℕ) → Passed (λ k. entry_frame f d ∷ k) (λ k. k) (event end_array j) r s)
entries_over f r s b e p = rw e at p

pub member_goes : (f : Bool) (r s : Reader) (o : Member) (x : Placed (Bor (List ℕ))) → o ≡ Named x → ReadsMember f r s (Ok o) → NameRead (λ d k. members f d ∷ k) r s x.value.now x.offset
member_goes f r s o x e p = rw e at p

pub members_over : (f : Bool) (r s : Reader) (o : Member) (j : ℕ) → o ≡ End j → ReadsMember f r s (Ok o) → (s.at ≡ j + 1) × ((d : ℕ) → Passed (λ k. members f d ∷ k) (λ k. k) (event end_object j) r s)
members_over f r s o j e p = rw e at p

pub same_text : {t : List ℕ} {a b : Bor (List ℕ)} → b ≡ a → a.now ≡ t → b.now ≡ t
same_text e q = ap (λ z. z.now) e ∙ q

-- the name of a member
pub name_read : {t : List ℕ} {f : Bool} {r s : Reader} {x : List ℕ} {i : ℕ} (lv : ℕ) (h : Draft) → r.text.now ≡ t → NameRead (λ d k. members f d ∷ k) r s x i → (m : Lot) → Works t (λ k. members f lv ∷ k) (λ k. value lv ∷ members false lv ∷ k) (at_members h m) (at_name (key_spelled (stands x)) h i m) r s
name_read {t} {x = x} {i = i} lv h q n m =
    token (at_members h m) (at_name (key_spelled (stands x)) h i m) name i (n.passed lv)
    (λ ps. name_comes t h m i ps _ (ap (λ v. key_spelled (stands v)) (n.holds ∙ ap (λ v. string_part (drop i v)) q)))
