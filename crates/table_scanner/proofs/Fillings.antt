-- What an entry brings, in the words of the catalogue and of the state.
use Rattle.std.proofs.Common.{◌≡◌, ◌+◌, ◌-◌, ◌≤◌, Bool, true, false, cond, ◌&&◌, ◌||◌, leb, List, [], ◌∷◌, ◌++◌, length, is_some, is_ok, Some, None, Err, Option, Result, unwrap_or, sym, refl, ap, ◌∙◌, subst, inl, inr, arith}
use Rattle.std.specs.List.{list_any}
use Rattle.std.proofs.lemmas.List.{length_push}
use Rattle.std.proofs.lemmas.Bool.{and_from, and_parts, or_left, or_right, or_cases, and_right, cases_Bool, cond-true, cond-false, both_ways, not-false, eq-eqb}
use Rattle.names.specs.declared.kinds.Source.{Source}
use Rattle.names.specs.declared.kinds.PixelFormat.{PixelFormat}
use Rattle.names.specs.declared.kinds.Word.{Word}
use Rattle.names.specs.declared.kinds.Value.{Value}
use Rattle.names.specs.declared.kinds.Value.TheVariants as values
use Rattle.names.specs.Codes.{format_code}
use Rattle.names.specs.Same.{same_source, same_format}
use Rattle.scanner.specs.declared.point.Point.{Point}
use Rattle.scanner.specs.Meaning.{Catalogue, same_point}
use Rattle.scanner.specs.SamePoint.{SameIsOne}
use Rattle.scanners.specs.declared.fault.FillFault.{FillFault}
use Rattle.scanners.specs.declared.range.Range.{Range}
use Rattle.scanners.specs.declared.values.Values.{Values}
use Rattle.scanners.specs.declared.values.Values.TheVariants as kinds
use Rattle.scanners.specs.Faults.{first_fault, told}
use Rattle.scanners.specs.Values.{is_one_of}
use Rattle.table_scanner.specs.declared.entry.Pair.{Pair}
use Rattle.table_scanner.specs.declared.entry.Setting.{Setting}
use Rattle.table_scanner.specs.declared.entry.Offer.{Offer}
use Rattle.table_scanner.specs.Lookup.{found}
use Rattle.table_scanner.specs.Entries.{of_source, is_pair, at_point, offering, pair_there, looked_up, listed_catalogue, listed_state, Paired, Anchored}
use Rattle.table_scanner.specs.PointsKept.{found_any, looked_any}
use Rattle.table_scanner.specs.Bounds.{most_entries}
use Rattle.table_scanner.specs.Device.{Device}
use Rattle.table_scanner.specs.Filling.{Change, new_source, new_format, new_attribute, new_range, new_word, new_home, offer_of, is_word, ranges, missing, already, entries_of, with_pair, fault_of, unless_fault, carried_out, changed, after_call, read, Fills, Lawful, FillingKeepsTheLaws}
use Rattle.table_scanner.proofs.Lookups.{value_or, any_push, looked_put, found_off, found_new, found_old, any_old}

-- a call that a fault stops changes nothing
unchanged : (o : Option FillFault) (fault : FillFault) (new old : Device) → Err fault ≡ told o → old ≡ unless_fault o new old
unchanged None fault new old h = absurd (both_ways false refl (ap is_ok h))
unchanged (Some f) fault new old h = refl

pub refused : (d : Device) (call : Option Change) (c : Change) (fault : FillFault) (r : Result (Unit {0}) FillFault) → Some c ≡ call → Err fault ≡ told (fault_of d (Some c)) → r ≡ Err fault → Fills call d d r
refused d call c fault r is why e =
    subst (λ z. Fills z d d r) is (record { says = e ∙ why; after = unchanged (fault_of d (Some c)) fault (carried_out d c) d why })

-- no fault stops a change: what it hangs on is there, and it is new
no_fault : (missing there full : Bool) → first_fault false missing there full ≡ None → (missing ≡ false) × (there ≡ false)
no_fault true there full h = absurd (both_ways true (ap is_some h) refl)
no_fault false true full h = absurd (both_ways true (ap is_some h) refl)
no_fault false false full h = (refl, refl)

admitted : (d : Device) (c : Change) → fault_of d (Some c) ≡ None → (missing d.catalogue c ≡ false) × (already d.catalogue c ≡ false)
admitted d c free = no_fault (missing d.catalogue c) (already d.catalogue c) (leb (most_entries + 1) (d.entries + entries_of c)) free

-- the device that the lists make
abbrev pub listed : List Pair → List Setting → List Offer → Source → Device
listed pairs settings offers home = record {
  catalogue = listed_catalogue pairs settings offers home;
  state = listed_state pairs settings;
  entries = length pairs + length settings + length offers - 1;
}

-- a pair that is not enabled changes no switch
unswitched : (a s : Source) (g f : PixelFormat) (xs : List Pair) → unwrap_or (found (is_pair a g) (λ x. x.enabled) (xs ++ record { source = s; format = f; enabled = false } ∷ [])) false ≡ unwrap_or (found (is_pair a g) (λ x. x.enabled) xs) false
unswitched a s g f [] = elim (same_source s a && same_format f g) as (λ b. unwrap_or (cond b (Some false) None) false ≡ false) [ true ↦ refl | false ↦ refl ]
unswitched a s g f (x ∷ xs) =
    elim (is_pair a g x) as (λ b. unwrap_or (cond b (Some x.enabled) (found (is_pair a g) (λ x. x.enabled) (xs ++ record { source = s; format = f; enabled = false } ∷ []))) false ≡ unwrap_or (cond b (Some x.enabled) (found (is_pair a g) (λ x. x.enabled) xs)) false) [
      | true ↦ refl
      | false ↦ unswitched a s g f xs
    ]

-- the values of an entry are those of its word or range
word_here : (w : Word) (v : Value) → is_one_of (kinds.Word w) v ≡ is_word w v
word_here w (values.Word v) = refl
word_here w (values.Number n) = refl

range_here : (r : Range) (v : Value) → is_one_of (kinds.Range r) v ≡ ranges r.low r.high r.step v
range_here r (values.Word v) = refl
range_here r (values.Number n) = refl

-- a pair more leaves every setting at a pair that is there
pub paired_pair : (pairs : List Pair) (settings : List Setting) (y : Pair) → Paired pairs settings → Paired (pairs ++ y ∷ []) settings
paired_pair pairs settings y paired q h = any_push (is_pair q.source q.format) pairs y ∙ or_left _ _ (paired q h)

-- a setting at a pair that is there
pub paired_push : SameIsOne → (pairs : List Pair) (settings : List Setting) (y : Setting) → pair_there pairs y.point ≡ true → Paired pairs settings → Paired pairs (settings ++ y ∷ [])
paired_push one pairs settings y there paired q h =
    elim (or_cases _ _ (sym (any_push (at_point q) settings y) ∙ h)) [
      | inl old ↦ paired q old
      | inr new ↦ subst (λ z. pair_there pairs z ≡ true) (one.points y.point q new) there
    ]

-- a setting more leaves every offer at a point that has one
pub anchored_more : (settings : List Setting) (offers : List Offer) (y : Setting) → Anchored settings offers → Anchored (settings ++ y ∷ []) offers
anchored_more settings offers y anchored q v h = any_push (at_point q) settings y ∙ or_left _ _ (anchored q v h)

-- an offer at a point that has a setting
pub anchored_push : SameIsOne → (settings : List Setting) (offers : List Offer) (y : Offer) → list_any (at_point y.point) settings ≡ true → Anchored settings offers → Anchored settings (offers ++ y ∷ [])
anchored_push one settings offers y there anchored q v h =
    elim (or_cases _ _ (sym (any_push (offering q v) offers y) ∙ h)) [
      | inl old ↦ anchored q v old
      | inr new ↦ subst (λ z. list_any (at_point z) settings ≡ true) (one.points y.point q (and_parts _ _ new).0) there
    ]

-- where every setting is at a pair that is there, and every offer at a point that has a setting, what stands in the lists is what is looked up
module _ (pairs : List Pair) (settings : List Setting) (offers : List Offer) (paired : Paired pairs settings) (anchored : Anchored settings offers) where
  pub setting_found : {Y : Type 0} (part : Setting → Y) (q : Point) → looked_up part pairs settings q ≡ found (at_point q) part settings
  setting_found part q =
      elim (cases_Bool (list_any (at_point q) settings)) [
        | inl y ↦ cond-true _ _ _ (paired q y)
        | inr n ↦ elim (pair_there pairs q) as (λ b. cond b (found (at_point q) part settings) None ≡ found (at_point q) part settings) [ true ↦ refl | false ↦ sym (found_off (at_point q) part settings n) ]
      ]

  pub value_found : (q : Point) (v : Value) → (is_some (looked_up (λ x. x.initial) pairs settings q) && list_any (offering q v) offers) ≡ list_any (offering q v) offers
  value_found q v =
      elim (cases_Bool (list_any (offering q v) offers)) [
        | inl y ↦ and_from _ _ (ap is_some (setting_found (λ x. x.initial) q) ∙ found_any (at_point q) (λ x. x.initial) settings ∙ anchored q v y) y ∙ sym y
        | inr n ↦ and_right _ _ n ∙ sym n
      ]

-- an offer that no fault stops is at a point that has a setting
pub offer_there : (d : Device) (p : Point) (vs : Values) → fault_of d (Some (offer_of p vs)) ≡ None → is_some (d.catalogue.power_on p) ≡ true
offer_there d p (kinds.Word w) free = not-false _ (admitted d (new_word p w) free).0
offer_there d p (kinds.Range r) free = not-false _ (admitted d (new_range p r.low r.high r.step) free).0

module _ (one : SameIsOne) (pairs : List Pair) (settings : List Setting) (offers : List Offer) (home : Source) (started : 1 ≤ length pairs) (paired : Paired pairs settings) (anchored : Anchored settings offers) where
  abbrev d : Device
  d = listed pairs settings offers home

  pair_count : (y : Pair) → length (pairs ++ y ∷ []) + length settings + length offers - 1 ≡ (length pairs + length settings + length offers - 1) + 1
  pair_count y = omega (arith, length_push pairs y)

  setting_count : (y : Setting) → length pairs + length (settings ++ y ∷ []) + length offers - 1 ≡ (length pairs + length settings + length offers - 1) + 1
  setting_count y = omega (arith, length_push settings y)

  offer_count : (y : Offer) → length pairs + length settings + length (offers ++ y ∷ []) - 1 ≡ (length pairs + length settings + length offers - 1) + 1
  offer_count y = omega (arith, length_push offers y)

  pub brings_source : (s : Source) (f : PixelFormat) → fault_of d (Some (new_source s f)) ≡ None
      → listed (pairs ++ record { source = s; format = f; enabled = false } ∷ []) settings offers home ≡ carried_out d (new_source s f)
  brings_source s f free =
      let new : list_any (of_source s) pairs ≡ false = (admitted d (new_source s f) free).1 in
      let y : Pair = record { source = s; format = f; enabled = false } in
      let more = paired_pair pairs settings y paired in
      let unlike : (a : Source) → same_source s a ≡ true → list_any (of_source a) pairs ≡ false = λ a e. subst (λ z. list_any (of_source z) pairs ≡ false) (one.sources s a e) new in
      λ j. record {
        catalogue = record {
          offers_source = λ a. any_push (of_source a) pairs y j;
          offers_format = λ a g. any_push (is_pair a g) pairs y j;
          power_on = λ q. (setting_found (pairs ++ y ∷ []) settings offers more anchored (λ x. x.initial) q ∙ sym (setting_found pairs settings offers paired anchored (λ x. x.initial) q)) j;
          offers_value = λ q v. (value_found (pairs ++ y ∷ []) settings offers more anchored q v ∙ sym (value_found pairs settings offers paired anchored q v)) j;
          home_source = home;
          home_format = λ a. (ap (λ o. unwrap_or o PixelFormat.Gray8) (found_new (of_source a) (λ x. x.format) pairs y (unlike a)) ∙ value_or (same_source s a) f PixelFormat.Gray8 (found (of_source a) (λ x. x.format) pairs)) j;
        };
        state = record { enabled = λ a g. unswitched a s g f pairs j; current = λ q. (setting_found (pairs ++ y ∷ []) settings offers more anchored (λ x. x.current) q ∙ sym (setting_found pairs settings offers paired anchored (λ x. x.current) q)) j };
        entries = pair_count y j;
      }

  pub brings_format : (s : Source) (f : PixelFormat) → fault_of d (Some (new_format s f)) ≡ None
      → listed (pairs ++ record { source = s; format = f; enabled = false } ∷ []) settings offers home ≡ carried_out d (new_format s f)
  brings_format s f free =
      let there : list_any (of_source s) pairs ≡ true = not-false _ (admitted d (new_format s f) free).0 in
      let y : Pair = record { source = s; format = f; enabled = false } in
      let more = paired_pair pairs settings y paired in
      let known : (a : Source) → same_source s a ≡ true → list_any (of_source a) pairs ≡ true = λ a e. subst (λ z. list_any (of_source z) pairs ≡ true) (one.sources s a e) there in
      λ j. record {
        catalogue = record {
          offers_source = λ a. any_old (of_source a) (λ x. x) pairs y (known a) j;
          offers_format = λ a g. any_push (is_pair a g) pairs y j;
          power_on = λ q. (setting_found (pairs ++ y ∷ []) settings offers more anchored (λ x. x.initial) q ∙ sym (setting_found pairs settings offers paired anchored (λ x. x.initial) q)) j;
          offers_value = λ q v. (value_found (pairs ++ y ∷ []) settings offers more anchored q v ∙ sym (value_found pairs settings offers paired anchored q v)) j;
          home_source = home;
          home_format = λ a. unwrap_or (found_old (of_source a) (λ x. x.format) pairs y (known a) j) PixelFormat.Gray8;
        };
        state = record { enabled = λ a g. unswitched a s g f pairs j; current = λ q. (setting_found (pairs ++ y ∷ []) settings offers more anchored (λ x. x.current) q ∙ sym (setting_found pairs settings offers paired anchored (λ x. x.current) q)) j };
        entries = pair_count y j;
      }

  pub brings_attribute : (p : Point) (v : Value) → fault_of d (Some (new_attribute p v)) ≡ None
      → listed pairs (settings ++ record { point = p; initial = v; current = v } ∷ []) offers home ≡ carried_out d (new_attribute p v)
  brings_attribute p v free =
      let new : list_any (at_point p) settings ≡ false = sym (found_any (at_point p) (λ x. x.initial) settings) ∙ ap is_some (sym (setting_found pairs settings offers paired anchored (λ x. x.initial) p)) ∙ (admitted d (new_attribute p v) free).1 in
      let there : pair_there pairs p ≡ true = not-false _ (admitted d (new_attribute p v) free).0 in
      let y : Setting = record { point = p; initial = v; current = v } in
      let k = listed_catalogue pairs settings offers home in
      let more = paired_push one pairs settings y there paired in
      let here : (q : Point) → same_point p q ≡ true → pair_there pairs q ≡ true = λ q e. subst (λ z. pair_there pairs z ≡ true) (one.points p q e) there in
      let unlike : (q : Point) → same_point p q ≡ true → list_any (at_point q) settings ≡ false = λ q e. subst (λ z. list_any (at_point z) settings ≡ false) (one.points p q e) new in
      λ j. record {
        catalogue = record {
          offers_source = k.offers_source;
          offers_format = k.offers_format;
          power_on = λ q. (ap (λ o. cond (pair_there pairs q) o None) (found_new (at_point q) (λ x. x.initial) settings y (unlike q)) ∙ looked_put (pair_there pairs q) (same_point p q) v _ (here q)) j;
          offers_value = λ q w. (value_found pairs (settings ++ y ∷ []) offers more (anchored_more settings offers y anchored) q w ∙ sym (value_found pairs settings offers paired anchored q w)) j;
          home_source = home;
          home_format = k.home_format;
        };
        state = record { enabled = (listed_state pairs settings).enabled; current = λ q. (ap (λ o. cond (pair_there pairs q) o None) (found_new (at_point q) (λ x. x.current) settings y (unlike q)) ∙ looked_put (pair_there pairs q) (same_point p q) v _ (here q)) j };
        entries = setting_count y j;
      }

  pub setting_there : (p : Point) (vs : Values) → fault_of d (Some (offer_of p vs)) ≡ None → list_any (at_point p) settings ≡ true
  setting_there p vs free = (and_parts (pair_there pairs p) _ (sym (looked_any (λ x. x.initial) pairs settings p) ∙ offer_there d p vs free)).1

  pub brings_offer : (p : Point) (vs : Values) → fault_of d (Some (offer_of p vs)) ≡ None
      → listed pairs settings (offers ++ record { point = p; values = vs } ∷ []) home ≡ carried_out d (offer_of p vs)
  brings_offer p (kinds.Word w) free =
      let y : Offer = record { point = p; values = kinds.Word w } in
      let more = anchored_push one settings offers y (setting_there p (kinds.Word w) free) anchored in
      let k = listed_catalogue pairs settings offers home in
      λ j. record {
        catalogue = record {
          offers_source = k.offers_source;
          offers_format = k.offers_format;
          power_on = k.power_on;
          offers_value = λ q v. (value_found pairs settings (offers ++ y ∷ []) paired more q v ∙ any_push (offering q v) offers y ∙ (λ i. sym (value_found pairs settings offers paired anchored q v) i || (same_point p q && word_here w v i))) j;
          home_source = home;
          home_format = k.home_format;
        };
        state = listed_state pairs settings;
        entries = offer_count y j;
      }
  brings_offer p (kinds.Range r) free =
      let y : Offer = record { point = p; values = kinds.Range r } in
      let more = anchored_push one settings offers y (setting_there p (kinds.Range r) free) anchored in
      let k = listed_catalogue pairs settings offers home in
      λ j. record {
        catalogue = record {
          offers_source = k.offers_source;
          offers_format = k.offers_format;
          power_on = k.power_on;
          offers_value = λ q v. (value_found pairs settings (offers ++ y ∷ []) paired more q v ∙ any_push (offering q v) offers y ∙ (λ i. sym (value_found pairs settings offers paired anchored q v) i || (same_point p q && range_here r v i))) j;
          home_source = home;
          home_format = k.home_format;
        };
        state = listed_state pairs settings;
        entries = offer_count y j;
      }

-- a call that is carried out keeps the laws, since a home that is named is offered
changed_lawful : (k : Catalogue) (c : Change) → Lawful k → missing k c ≡ false → Lawful (changed k c)
changed_lawful k (new_source s f) l m =
    record {
      source = or_left _ _ l.source;
      format = λ a h.
          let Goal : PixelFormat → Type 0 = λ g. with_pair k s f a g ≡ true in
          elim (cases_Bool (same_source s a)) [
            | inl y ↦ subst Goal (sym (cond-true (same_source s a) f (k.home_format a) y)) (or_right _ _ (and_from _ _ y (eq-eqb (format_code f) _ refl)))
            | inr n ↦ subst Goal (sym (cond-false (same_source s a) f (k.home_format a) n)) (or_left _ _ (l.format a (elim (or_cases _ _ h) [ inl y ↦ y | inr y ↦ absurd (both_ways _ n y) ])))
          ];
    }
changed_lawful k (new_format s f) l m = record { source = l.source; format = λ a h. or_left _ _ (l.format a h) }
changed_lawful k (new_attribute p v) l m = record { source = l.source; format = l.format }
changed_lawful k (new_range p low high step) l m = record { source = l.source; format = l.format }
changed_lawful k (new_word p w) l m = record { source = l.source; format = l.format }
changed_lawful k (new_home s) l m = record { source = not-false (k.offers_source s) m; format = l.format }

call_lawful : (d : Device) (call : Option Change) → Lawful d.catalogue → Lawful (after_call d call).catalogue
call_lawful d None l = l
call_lawful d (Some c) l =
    let go : (m t f : Bool) → missing d.catalogue c ≡ m → Lawful (unless_fault (first_fault false m t f) (carried_out d c) d).catalogue =
    λ m t f. elim m as (λ m. missing d.catalogue c ≡ m → Lawful (unless_fault (first_fault false m t f) (carried_out d c) d).catalogue) [
      | true ↦ λ e. l
      | false ↦ λ e. elim t as (λ t. Lawful (unless_fault (first_fault false false t f) (carried_out d c) d).catalogue) [
        | true ↦ l
        | false ↦ elim f as (λ f. Lawful (unless_fault (first_fault false false false f) (carried_out d c) d).catalogue) [ true ↦ l | false ↦ changed_lawful d.catalogue c l e ]
      ]
    ] in
    go (missing d.catalogue c) (already d.catalogue c) (leb (most_entries + 1) (d.entries + entries_of c)) refl

pub keeps_the_laws : FillingKeepsTheLaws
keeps_the_laws d [] l = l
keeps_the_laws d (c ∷ cs) l = keeps_the_laws (after_call d (read c)) cs (call_lawful d (read c) l)
