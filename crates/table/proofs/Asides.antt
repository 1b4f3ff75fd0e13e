-- Values of which only the JSON counts.
use Rattle.std.proofs.Common.{◌≡◌, ℕ, suc, true, List, ◌∷◌, drop, sym, refl, ap, ◌∙◌}
use Rattle.text.specs.declared.reader.Reader.{Reader}
use Rattle.text.specs.declared.token.Token.{Token}
use Rattle.text.specs.Machine.{Kind, Tape, ending, event, value, begin_object, end_object, begin_array, end_array, name, string, number, literal_true, literal_false, literal_null}
use Rattle.text.specs.Tree.{Json, Members, Entries, scalar, object, array, no_member, one_member, no_entry, one_entry, events, member_events, entry_events, Scalar, Proper, ProperMembers, ProperEntries}
use Rattle.text.specs.Ahead.{ahead, Starts, ValueRead, kind_of}
use Rattle.table.specs.declared.keys.Key.{Key}
use Rattle.table.specs.declared.draft.Draft.{Draft}
use Rattle.table.specs.declared.meaning.Meaning.{Meaning}
use Rattle.table.specs.Words.{value_meaning}
use Rattle.table.specs.Drafts.{with_word}
use Rattle.table.specs.Form.{Lot, Doing, doing, Place, between, beside, State, inside, on_at, after, is_value_name}
use Rattle.table.specs.Works.{Works, at_members, at_value}

abbrev deep : ℕ → Doing → List Place → State
deep n d ps = inside (beside n d ∷ ps)

scalar_deep : (x : Kind) → Scalar x → (i n : ℕ) (d : Doing) (t : List ℕ) (ps : List Place) (u : Tape) → after t (deep (suc n) d ps) (event x i u) ≡ after t (deep (suc n) d ps) u
unfolding after on_at
scalar_deep begin_object p i n d t ps u = absurd p
scalar_deep end_object p i n d t ps u = absurd p
scalar_deep begin_array p i n d t ps u = absurd p
scalar_deep end_array p i n d t ps u = absurd p
scalar_deep name p i n d t ps u = absurd p
scalar_deep string p i n d t ps u = refl
scalar_deep number p i n d t ps u = refl
scalar_deep literal_true p i n d t ps u = refl
scalar_deep literal_false p i n d t ps u = refl
scalar_deep literal_null p i n d t ps u = refl

-- a value inside an object or an array that only counts as JSON
mutual
  unfolding events member_events entry_events Proper ProperMembers ProperEntries after on_at

  deep_value : (v : Json) → Proper v → (n : ℕ) (d : Doing) (t : List ℕ) (ps : List Place) (u : Tape) → after t (deep (suc n) d ps) (events v u) ≡ after t (deep (suc n) d ps) u
  deep_value (scalar x i) p n d t ps u = scalar_deep x p i n d t ps u
  deep_value (object i ms j) p n d t ps u = deep_members ms p (suc n) d t ps _
  deep_value (array i vs j) p n d t ps u = deep_entries vs p (suc n) d t ps _

  deep_members : (ms : Members) → ProperMembers ms → (n : ℕ) (d : Doing) (t : List ℕ) (ps : List Place) (u : Tape) → after t (deep (suc n) d ps) (member_events ms u) ≡ after t (deep (suc n) d ps) u
  deep_members no_member p n d t ps u = refl
  deep_members (one_member i v ms) p n d t ps u = deep_value v p.0 n d t ps _ ∙ deep_members ms p.1 n d t ps u

  deep_entries : (vs : Entries) → ProperEntries vs → (n : ℕ) (d : Doing) (t : List ℕ) (ps : List Place) (u : Tape) → after t (deep (suc n) d ps) (entry_events vs u) ≡ after t (deep (suc n) d ps) u
  deep_entries no_entry p n d t ps u = refl
  deep_entries (one_entry v vs) p n d t ps u = deep_value v p.0 n d t ps _ ∙ deep_entries vs p.1 n d t ps u

scalar_aside : (x : Kind) → Scalar x → (i : ℕ) (d : Doing) (t : List ℕ) (ps : List Place) (u : Tape) → after t (deep 0 d ps) (event x i u) ≡ after t (inside (between d ∷ ps)) u
unfolding after on_at
scalar_aside begin_object p i d t ps u = absurd p
scalar_aside end_object p i d t ps u = absurd p
scalar_aside begin_array p i d t ps u = absurd p
scalar_aside end_array p i d t ps u = absurd p
scalar_aside name p i d t ps u = absurd p
scalar_aside string p i d t ps u = refl
scalar_aside number p i d t ps u = refl
scalar_aside literal_true p i d t ps u = refl
scalar_aside literal_false p i d t ps u = refl
scalar_aside literal_null p i d t ps u = refl

pub aside_value : (v : Json) → Proper v → (d : Doing) (t : List ℕ) (ps : List Place) (u : Tape) → after t (deep 0 d ps) (events v u) ≡ after t (inside (between d ∷ ps)) u
unfolding events Proper after on_at
aside_value (scalar x i) p d t ps u = scalar_aside x p i d t ps u
aside_value (object i ms j) p d t ps u = deep_members ms p 0 d t ps _
aside_value (array i vs j) p d t ps u = deep_entries vs p 0 d t ps _

-- the value of an unknown member
pub skipped : {t : List ℕ} {lv i : ℕ} {x : Token} {r s : Reader} (d : Doing) → ValueRead lv r s x i → Works t (λ k. value lv ∷ k) (λ k. k) (λ ps. inside (beside 0 d ∷ ps)) (λ ps. inside (between d ∷ ps)) r s
skipped {t} d v = record {
  same = v.passed.same;
  forth = v.passed.forth;
  ends = λ k. ap ending (v.passed.runs k) ∙ v.ends _;
  runs = λ k ps. ap (after t (inside (beside 0 d ∷ ps))) (v.passed.runs k) ∙ aside_value v.what v.proper d t ps _;
}

-- the value of a value object begins
moved : (t : List ℕ) (h : Draft) (b : Lot) (x y : Kind) (i j : ℕ) (ps : List Place) (u : Tape) → x ≡ y → i ≡ j → after t (deep 0 (doing (with_word (value_meaning y (drop j t)) j h) b) ps) u ≡ after t (deep 0 (doing (with_word (value_meaning x (drop i t)) i h) b) ps) u
moved t h b x y i j ps u p q =
    ap (λ (z : Kind). after t (deep 0 (doing (with_word (value_meaning z (drop j t)) j h) b) ps) u) (sym p)
    ∙ ap (λ (k : ℕ). after t (deep 0 (doing (with_word (value_meaning x (drop k t)) k h) b) ps) u) (sym q)

valued_at : (t : List ℕ) (key : Key) (h : Draft) (b : Lot) (y : Kind) (j : ℕ) (ps : List Place) (u : Tape) → is_value_name key ≡ true → after t (at_value key h b ps) (event y j u) ≡ after t (deep 0 (doing (with_word (value_meaning y (drop j t)) j h) b) ps) (event y j u)
unfolding after on_at
valued_at t key h b y j ps u e = rw e refl

valued : (t : List ℕ) (key : Key) (h : Draft) (b : Lot) (x : Kind) (i : ℕ) (ps : List Place) (v : Json) (u : Tape) → is_value_name key ≡ true → Starts v x i → after t (at_value key h b ps) (events v u) ≡ after t (deep 0 (doing (with_word (value_meaning x (drop i t)) i h) b) ps) (events v u)
unfolding events
valued t key h b x i ps (scalar y j) u e s = valued_at t key h b y j ps u e ∙ moved t h b x y i j ps _ s.0 s.1
valued t key h b x i ps (object j ms l) u e s = valued_at t key h b begin_object j ps _ e ∙ moved t h b x begin_object i j ps _ s.0 s.1
valued t key h b x i ps (array j vs l) u e s = valued_at t key h b begin_array j ps _ e ∙ moved t h b x begin_array i j ps _ s.0 s.1

pub any_value : (t : List ℕ) (key : Key) (h : Draft) (b : Lot) (lv i : ℕ) (x : Token) (r s : Reader) (m : Meaning) → is_value_name key ≡ true → m ≡ value_meaning (kind_of x) (drop i t) → ValueRead lv r s x i → Works t (λ k. value lv ∷ k) (λ k. k) (at_value key h b) (at_members (with_word m i h) b) r s
any_value t key h b lv i x r s m e f v = record {
  same = v.passed.same;
  forth = v.passed.forth;
  ends = λ k. ap ending (v.passed.runs k) ∙ v.ends _;
  runs = λ k ps.
      ap (after t (at_value key h b ps)) (v.passed.runs k)
      ∙ valued t key h b (kind_of x) i ps v.what (ahead s k) e v.starts
      ∙ aside_value v.what v.proper (doing (with_word (value_meaning (kind_of x) (drop i t)) i h) b) t ps (ahead s k)
      ∙ ap (λ (y : Meaning). after t (inside (between (doing (with_word y i h) b) ∷ ps)) (ahead s k)) (sym f);
}
