-- The stacks that can come: each of them some text brings to a good end, and one more level changes nothing but the depth.
use Rattle.std.proofs.Common.{◌≡◌, ℕ, zero, suc, ◌+◌, ◌<◌, ◌≤◌, Bool, true, false, cond, eqb, leb, List, [], ◌∷◌, ◌++◌, length, take, Ok, Err, sym, refl, ap, ◌∙◌, subst, arith}
use Rattle.std.proofs.lemmas.Bool.{cond-true, cond-false}
use Rattle.std.proofs.lemmas.Bool.Decides.{nat_tests}
use Rattle.text.specs.declared.fault.TextFault.TheVariants.{Forbidden, TooDeep}
use Rattle.text.specs.Bytes.{between, white, digit, hex_digit, exponent_mark, sign_mark, short_escape}
use Rattle.text.specs.Machine.{Kind, Frame, Part, Step, whole, fraction, exponent, value, first, digits, digit1, sign, after, chars, escape, hex, tail, literal, member, colon, members, entries, go, says, forbidden, too_deep, good, fault, ending, tails, hexes, letters, lead, opens, begins, follows, step, over, run, begin_object, begin_array}
use Rattle.text.proofs.Steps.{run_go, run_says, run_forbidden, run_deep}

-- below a value
pub data Rest : List Frame → Type 0 where
  rest_none : Rest []
  rest_object : {d : ℕ} {k : List Frame} → Rest k → Rest (members false d ∷ k)
  rest_array : {d : ℕ} {k : List Frame} → Rest k → Rest (entries false d ∷ k)

-- below the characters of a string
pub data Under : List Frame → Type 0 where
  under_value : {k : List Frame} → Rest k → Under k
  under_name : {d : ℕ} {k : List Frame} → Rest k → Under (colon d ∷ k)

pub data Reachable : List Frame → Type 0 where
  w_rest : {k : List Frame} → Rest k → Reachable k
  w_value : {d : ℕ} {k : List Frame} → Rest k → Reachable (value d ∷ k)
  w_first : {k : List Frame} → Rest k → Reachable (first ∷ k)
  w_digits : {p : Part} {k : List Frame} → Rest k → Reachable (digits p ∷ k)
  w_digit1 : {p : Part} {k : List Frame} → Rest k → Reachable (digit1 p ∷ k)
  w_sign : {k : List Frame} → Rest k → Reachable (sign ∷ k)
  w_after : {p : Part} {k : List Frame} → Rest k → Reachable (after p ∷ k)
  w_chars : {k : List Frame} → Under k → Reachable (chars ∷ k)
  w_escape : {k : List Frame} → Under k → Reachable (escape ∷ k)
  w_hex : {n : ℕ} {k : List Frame} → Under k → Reachable (hex n ∷ k)
  w_tail : {lo hi n : ℕ} {k : List Frame} → lo ≤ hi → Under k → Reachable (tail lo hi n ∷ k)
  w_literal : {c : ℕ} {cs : List ℕ} {k : List Frame} → Rest k → Reachable (literal (c ∷ cs) ∷ k)
  w_object : {d : ℕ} {k : List Frame} → Rest k → Reachable (members true d ∷ k)
  w_member : {d : ℕ} {k : List Frame} → Rest k → Reachable (member d ∷ k)
  w_colon : {d : ℕ} {k : List Frame} → Rest k → Reachable (colon d ∷ k)
  w_array : {d : ℕ} {k : List Frame} → Rest k → Reachable (entries true d ∷ k)

-- one level more
unfoldable pub up_frame : Frame → Frame
up_frame (value d) = value (suc d)
up_frame first = first
up_frame (digits p) = digits p
up_frame (digit1 p) = digit1 p
up_frame sign = sign
up_frame (after p) = after p
up_frame chars = chars
up_frame escape = escape
up_frame (hex n) = hex n
up_frame (tail a b n) = tail a b n
up_frame (literal cs) = literal cs
up_frame (member d) = member (suc d)
up_frame (colon d) = colon (suc d)
up_frame (members f d) = members f (suc d)
up_frame (entries f d) = entries f (suc d)

unfoldable pub up : List Frame → List Frame
up [] = []
up (f ∷ k) = up_frame f ∷ up k

rest_up : {k : List Frame} → Rest k → Rest (up k)
unfolding up up_frame
rest_up rest_none = rest_none
rest_up (rest_object r) = rest_object (rest_up r)
rest_up (rest_array r) = rest_array (rest_up r)

-- what a byte does to a stack, and to the stack with one level more
pub data Goes : Step → Step → Type 0 where
  g_go : {l : List Frame} → Reachable l → Goes (go l) (go (up l))
  g_says : {n : Kind} {l : List Frame} → Reachable l → Goes (says n l) (says n (up l))
  g_stop : Goes forbidden forbidden
  g_deep : {n : Kind} {l : List Frame} → Reachable l → Goes too_deep (says n l)

both : (c : Bool) {x y v w : Step} → Goes x y → Goes v w → Goes (cond c x v) (cond c y w)
both true p q = p
both false p q = q

opens_object : (d : ℕ) {k : List Frame} → Rest k → Goes (opens d (λ e. says begin_object (members true e ∷ k))) (opens (suc d) (λ e. says begin_object (members true e ∷ up k)))
unfolding up up_frame
opens_object zero r = g_deep (w_object (rest_up r))
opens_object (suc d) r = g_says (w_object r)

opens_array : (d : ℕ) {k : List Frame} → Rest k → Goes (opens d (λ e. says begin_array (entries true e ∷ k))) (opens (suc d) (λ e. says begin_array (entries true e ∷ up k)))
unfolding up up_frame
opens_array zero r = g_deep (w_array (rest_up r))
opens_array (suc d) r = g_says (w_array r)

begins_goes : (d b : ℕ) {k : List Frame} → Rest k → Goes (begins d b k) (begins (suc d) b (up k))
unfolding up up_frame
begins_goes d b r =
    both (eqb b 123) (opens_object d r)
    (both (eqb b 91) (opens_array d r)
    (both (eqb b 34) (g_says (w_chars (under_value r)))
    (both (eqb b 45) (g_says (w_first r))
    (both (eqb b 48) (g_says (w_after r))
    (both (digit b) (g_says (w_digits r)) (both (eqb b 116) (g_says (w_literal r)) (both (eqb b 102) (g_says (w_literal r)) (both (eqb b 110) (g_says (w_literal r)) g_stop))))))))

follows_goes : (p : Part) (b : ℕ) {k : List Frame} {x y : Step} → Rest k → Goes x y → Goes (follows p b k x) (follows p b (up k) y)
unfolding up up_frame
follows_goes whole b r s = both (eqb b 46) (g_go (w_digit1 r)) (both (exponent_mark b) (g_go (w_sign r)) s)
follows_goes fraction b r s = both (exponent_mark b) (g_go (w_sign r)) s
follows_goes exponent b r s = s

lead_goes : (b : ℕ) {k : List Frame} → Under k → Goes (lead b k) (lead b (up k))
unfolding up up_frame
lead_goes b u =
    both (between 194 223 b) (g_go (w_tail (omega arith) u))
    (both (eqb b 224) (g_go (w_tail (omega arith) u))
    (both (eqb b 237) (g_go (w_tail (omega arith) u))
    (both (between 225 239 b) (g_go (w_tail (omega arith) u)) (both (eqb b 240) (g_go (w_tail (omega arith) u)) (both (between 241 243 b) (g_go (w_tail (omega arith) u)) (both (eqb b 244) (g_go (w_tail (omega arith) u)) g_stop))))))

tails_goes : (n : ℕ) {k : List Frame} → Under k → Goes (go (tails n k)) (go (tails n (up k)))
unfolding up up_frame
tails_goes zero u = g_go (w_chars u)
tails_goes (suc n) u = g_go (w_tail (omega arith) u)

hexes_goes : (n : ℕ) {k : List Frame} → Under k → Goes (go (hexes n k)) (go (hexes n (up k)))
unfolding up up_frame
hexes_goes zero u = g_go (w_chars u)
hexes_goes (suc n) u = g_go (w_hex u)

letters_goes : (cs : List ℕ) {k : List Frame} → Rest k → Goes (go (letters cs k)) (go (letters cs (up k)))
unfolding up up_frame
letters_goes [] r = g_go (w_rest r)
letters_goes (c ∷ cs) r = g_go (w_literal r)

under_goes : {k : List Frame} → Under k → Goes (go k) (go (up k))
under_goes (under_value r) = g_go (w_rest r)
under_goes (under_name r) = g_go (w_colon r)

rest_goes : {k : List Frame} (b : ℕ) → Rest k → Goes (step k b) (step (up k) b)
unfolding step up up_frame
rest_goes b rest_none = both (white b) (g_go (w_rest rest_none)) g_stop
rest_goes b (rest_object r) = both (white b) (g_go (w_rest (rest_object r))) (both (eqb b 125) (g_says (w_rest r)) (both (eqb b 44) (g_go (w_member r)) g_stop))
rest_goes b (rest_array r) = both (white b) (g_go (w_rest (rest_array r))) (both (eqb b 93) (g_says (w_rest r)) (both (eqb b 44) (g_go (w_value (rest_array r))) g_stop))

reachable_goes : {k : List Frame} (b : ℕ) → Reachable k → Goes (step k b) (step (up k) b)
unfolding step up up_frame
reachable_goes b (w_rest r) = rest_goes b r
reachable_goes b (w_value {d} r) = both (white b) (g_go (w_value r)) (begins_goes d b r)
reachable_goes b (w_first r) = both (eqb b 48) (g_go (w_after r)) (both (digit b) (g_go (w_digits r)) g_stop)
reachable_goes b (w_digits {p} r) = both (digit b) (g_go (w_digits r)) (follows_goes p b r (rest_goes b r))
reachable_goes b (w_digit1 r) = both (digit b) (g_go (w_digits r)) g_stop
reachable_goes b (w_sign r) = both (sign_mark b) (g_go (w_digit1 r)) (both (digit b) (g_go (w_digits r)) g_stop)
reachable_goes b (w_after {p} r) = follows_goes p b r (rest_goes b r)
reachable_goes b (w_chars u) = both (eqb b 34) (under_goes u) (both (eqb b 92) (g_go (w_escape u)) (both (leb b 31) g_stop (both (leb b 127) (g_go (w_chars u)) (lead_goes b u))))
reachable_goes b (w_escape u) = both (short_escape b) (g_go (w_chars u)) (both (eqb b 117) (g_go (w_hex u)) g_stop)
reachable_goes b (w_hex {n} u) = both (hex_digit b) (hexes_goes n u) g_stop
reachable_goes b (w_tail {lo} {hi} {n} h u) = both (between lo hi b) (tails_goes n u) g_stop
reachable_goes b (w_literal {c} {cs} r) = both (eqb b c) (letters_goes cs r) g_stop
reachable_goes b (w_object r) = both (white b) (g_go (w_object r)) (both (eqb b 125) (g_says (w_rest r)) (both (eqb b 34) (g_says (w_chars (under_name r))) g_stop))
reachable_goes b (w_member r) = both (white b) (g_go (w_member r)) (both (eqb b 34) (g_says (w_chars (under_name r))) g_stop)
reachable_goes b (w_colon r) = both (white b) (g_go (w_colon r)) (both (eqb b 58) (g_go (w_value (rest_object r))) g_stop)
reachable_goes b (w_array {d} r) = both (white b) (g_go (w_array r)) (both (eqb b 93) (g_says (w_rest r)) (begins_goes d b (rest_array r)))

if_go : {x y : Step} → Goes x y → (m : List Frame) → x ≡ go m → Reachable m × (y ≡ go (up m))
if_go (g_go {l} w) m e = let q : l ≡ m = cc in (subst Reachable q w, ap (λ n. go (up n)) q)
if_go (g_says w) m e = cc
if_go g_stop m e = cc
if_go (g_deep w) m e = cc

if_says : {x y : Step} → Goes x y → (j : Kind) (m : List Frame) → x ≡ says j m → Reachable m × (y ≡ says j (up m))
if_says (g_go w) j m e = cc
if_says (g_says {n} {l} w) j m e = let q : l ≡ m = cc in let i : n ≡ j = cc in (subst Reachable q w, ap (λ o. says o (up l)) i ∙ ap (λ o. says j (up o)) q)
if_says g_stop j m e = cc
if_says (g_deep w) j m e = cc

if_forbidden : {x y : Step} → Goes x y → x ≡ forbidden → y ≡ forbidden
if_forbidden (g_go w) e = cc
if_forbidden (g_says w) e = cc
if_forbidden g_stop e = refl
if_forbidden (g_deep w) e = cc

if_deep : {x y : Step} → Goes x y → x ≡ too_deep → (n : Kind) × (l : List Frame) × Reachable l × (y ≡ says n l)
if_deep (g_go w) e = cc
if_deep (g_says w) e = cc
if_deep g_stop e = cc
if_deep (g_deep {n} {l} w) e = (n, l, w, refl)

over_up : {k : List Frame} → Rest k → over (up k) ≡ over k
unfolding over up up_frame
over_up rest_none = refl
over_up (rest_object r) = refl
over_up (rest_array r) = refl

reachable_over_up : {k : List Frame} → Reachable k → over (up k) ≡ over k
unfolding over up up_frame
reachable_over_up (w_rest r) = over_up r
reachable_over_up (w_value r) = refl
reachable_over_up (w_first r) = refl
reachable_over_up (w_digits r) = over_up r
reachable_over_up (w_digit1 r) = refl
reachable_over_up (w_sign r) = refl
reachable_over_up (w_after r) = over_up r
reachable_over_up (w_chars u) = refl
reachable_over_up (w_escape u) = refl
reachable_over_up (w_hex u) = refl
reachable_over_up (w_tail h u) = refl
reachable_over_up (w_literal r) = refl
reachable_over_up (w_object r) = refl
reachable_over_up (w_member r) = refl
reachable_over_up (w_colon r) = refl
reachable_over_up (w_array r) = refl

-- the stack takes the text to a good end, from any offset on
abbrev pub Accepts : List Frame → List ℕ → Type 0
Accepts k t = (s : ℕ) → ending (run t s k) ≡ Ok tt

-- a text that ends well from here
pub record Completion (k : List Frame) : Type 0 where
  pub left : List ℕ
  pub good_end : Accepts k left

-- the same, also after a number
record Close (k : List Frame) : Type 0 where
  left : List ℕ
  plain : Accepts k left
  past_digits : (p : Part) → Accepts (digits p ∷ k) left
  past : (p : Part) → Accepts (after p ∷ k) left

closes : {k : List Frame} → Rest k → Close k
unfolding run step over
closes rest_none = record { left = []; plain = λ s. refl; past_digits = λ p s. refl; past = λ p s. refl }
closes (rest_object r) = let c = closes r in record {
  left = 125 ∷ c.left;
  plain = λ s. c.plain (suc s);
  past_digits = elim [ whole ↦ λ s. c.plain (suc s) | fraction ↦ λ s. c.plain (suc s) | exponent ↦ λ s. c.plain (suc s) ];
  past = elim [ whole ↦ λ s. c.plain (suc s) | fraction ↦ λ s. c.plain (suc s) | exponent ↦ λ s. c.plain (suc s) ];
}
closes (rest_array r) = let c = closes r in record {
  left = 93 ∷ c.left;
  plain = λ s. c.plain (suc s);
  past_digits = elim [ whole ↦ λ s. c.plain (suc s) | fraction ↦ λ s. c.plain (suc s) | exponent ↦ λ s. c.plain (suc s) ];
  past = elim [ whole ↦ λ s. c.plain (suc s) | fraction ↦ λ s. c.plain (suc s) | exponent ↦ λ s. c.plain (suc s) ];
}

completion_under : {k : List Frame} → Under k → Completion k
unfolding run step
completion_under (under_value r) = let c = closes r in record { left = c.left; good_end = c.plain }
completion_under (under_name r) = let c = closes r in record { left = 58 ∷ 48 ∷ 125 ∷ c.left; good_end = λ s. c.plain (suc (suc (suc s))) }

completion_chars : {k : List Frame} → Under k → Completion (chars ∷ k)
unfolding run step
completion_chars u = let c = completion_under u in record { left = 34 ∷ c.left; good_end = λ s. c.good_end (suc s) }

completion_hex : (n : ℕ) {k : List Frame} → Under k → Completion (hex n ∷ k)
unfolding run step
completion_hex zero u = let c = completion_chars u in record { left = 48 ∷ c.left; good_end = λ s. c.good_end (suc s) }
completion_hex (suc n) u = let c = completion_hex n u in record { left = 48 ∷ c.left; good_end = λ s. c.good_end (suc s) }

completion_tails : (n : ℕ) {k : List Frame} → Under k → Completion (tails n k)
unfolding run step
completion_tails zero u = completion_chars u
completion_tails (suc n) u = let c = completion_tails n u in record { left = 128 ∷ c.left; good_end = λ s. c.good_end (suc s) }

tail_least : (a b n : ℕ) (k : List Frame) → a ≤ b → step (tail a b n ∷ k) a ≡ go (tails n k)
unfolding step
tail_least a b n k h = grind (arith, nat_tests)

same_letter : (c : ℕ) (cs : List ℕ) (k : List Frame) → step (literal (c ∷ cs) ∷ k) c ≡ go (letters cs k)
unfolding step
same_letter c cs k = grind (arith, nat_tests)

accepts_go : (k l : List Frame) (b : ℕ) (bs : List ℕ) → step k b ≡ go l → Accepts l bs → Accepts k (b ∷ bs)
accepts_go k l b bs e a s = ap ending (run_go b bs s k l e) ∙ a (suc s)

accepts_says : (k l : List Frame) (n : Kind) (b : ℕ) (bs : List ℕ) → step k b ≡ says n l → Accepts l bs → Accepts k (b ∷ bs)
accepts_says k l n b bs e a s = ap ending (run_says b bs s n k l e) ∙ a (suc s)

completion_letters : (cs : List ℕ) {k : List Frame} → Rest k → Completion (letters cs k)
completion_letters [] r = let c = closes r in record { left = c.left; good_end = c.plain }
completion_letters (c ∷ cs) {k} r = let f = completion_letters cs r in record { left = c ∷ f.left; good_end = accepts_go _ _ c f.left (same_letter c cs k) f.good_end }

completion_tail : {a b n : ℕ} {k : List Frame} → a ≤ b → Under k → Completion (tail a b n ∷ k)
completion_tail {a} {b} {n} {k} h u = let c = completion_tails n u in record { left = a ∷ c.left; good_end = accepts_go _ _ a c.left (tail_least a b n k h) c.good_end }

pub completion : {k : List Frame} → Reachable k → Completion k
unfolding run step over
completion (w_rest r) = let c = closes r in record { left = c.left; good_end = c.plain }
completion (w_value r) = let c = closes r in record { left = 48 ∷ c.left; good_end = λ s. c.past whole (suc s) }
completion (w_first r) = let c = closes r in record { left = 48 ∷ c.left; good_end = λ s. c.past whole (suc s) }
completion (w_digits {p} r) = let c = closes r in record { left = c.left; good_end = c.past_digits p }
completion (w_digit1 {p} r) = let c = closes r in record { left = 48 ∷ c.left; good_end = λ s. c.past_digits p (suc s) }
completion (w_sign r) = let c = closes r in record { left = 48 ∷ c.left; good_end = λ s. c.past_digits exponent (suc s) }
completion (w_after {p} r) = let c = closes r in record { left = c.left; good_end = c.past p }
completion (w_chars u) = completion_chars u
completion (w_escape u) = let c = completion_chars u in record { left = 110 ∷ c.left; good_end = λ s. c.good_end (suc s) }
completion (w_hex {n} u) = completion_hex n u
completion (w_tail h u) = completion_tail h u
completion (w_literal {c} {cs} r) = completion_letters (c ∷ cs) r
completion (w_object r) = let c = closes r in record { left = 125 ∷ c.left; good_end = λ s. c.plain (suc s) }
completion (w_member r) = let c = closes r in record { left = 34 ∷ 34 ∷ 58 ∷ 48 ∷ 125 ∷ c.left; good_end = λ s. c.plain (suc (suc (suc (suc (suc s))))) }
completion (w_colon r) = let c = closes r in record { left = 58 ∷ 48 ∷ 125 ∷ c.left; good_end = λ s. c.plain (suc (suc (suc s))) }
completion (w_array r) = let c = closes r in record { left = 93 ∷ c.left; good_end = λ s. c.plain (suc s) }

-- the fault at j is forbidden, i bytes after s: some text goes on well up to there, none past the next byte,
-- and the fault is the same with one level more
pub record ForbiddenFrom (t : List ℕ) (s j : ℕ) (k : List Frame) : Type 0 where
  pub i : ℕ
  pub at : j ≡ s + i
  pub within : i ≤ length t
  pub u : List ℕ
  pub live : ending (run (take i t ++ u) s k) ≡ Ok tt
  pub dead : i < length t → (v : List ℕ) → ending (run (take (suc i) t ++ v) s k) ≡ Err (Forbidden j)
  pub higher : ending (run t s (up k)) ≡ Err (Forbidden j)

forbidden_end : (s j : ℕ) (k : List Frame) (x : Bool) → Reachable k → over k ≡ x → ending (run [] s k) ≡ Err (Forbidden j) → ForbiddenFrom [] s j k
unfolding run
forbidden_end s j k true w q e = cc (ap ending (cond-true (over k) good (fault (Forbidden s)) q))
forbidden_end s j k false w q e =
    let f = ap ending (cond-false (over k) good (fault (Forbidden s)) q) in
    let h : j ≡ s = cc in
    let g = ap ending (cond-false (over (up k)) good (fault (Forbidden s)) (reachable_over_up w ∙ q)) in
    record { i = 0; at = omega arith; within = omega arith; u = (completion w).left; live = (completion w).good_end s; dead = λ l v. absurd (omega arith); higher = cc }

forbidden_step : (b : ℕ) (bs : List ℕ) (s j : ℕ) (k : List Frame) → Reachable k → ((l : List Frame) → Reachable l → ending (run bs (suc s) l) ≡ Err (Forbidden j) → ForbiddenFrom bs (suc s) j l) → (x : Step) → step k b ≡ x → ending (run (b ∷ bs) s k) ≡ Err (Forbidden j) → ForbiddenFrom (b ∷ bs) s j k
forbidden_step b bs s j k w ih (go l) q e =
    let g = if_go (reachable_goes b w) l q in
    let p = ih l g.0 (sym (ap ending (run_go b bs s k l q)) ∙ e) in
    record {
      i = suc p.i;
      at = omega (arith, p.at);
      within = omega (arith, p.within);
      u = p.u;
      live = ap ending (run_go b (take p.i bs ++ p.u) s k l q) ∙ p.live;
      dead = λ h v. ap ending (run_go b (take (suc p.i) bs ++ v) s k l q) ∙ p.dead (omega arith) v;
      higher = ap ending (run_go b bs s (up k) (up l) g.1) ∙ p.higher;
    }
forbidden_step b bs s j k w ih (says n l) q e =
    let g = if_says (reachable_goes b w) n l q in
    let p = ih l g.0 (sym (ap ending (run_says b bs s n k l q)) ∙ e) in
    record {
      i = suc p.i;
      at = omega (arith, p.at);
      within = omega (arith, p.within);
      u = p.u;
      live = ap ending (run_says b (take p.i bs ++ p.u) s n k l q) ∙ p.live;
      dead = λ h v. ap ending (run_says b (take (suc p.i) bs ++ v) s n k l q) ∙ p.dead (omega arith) v;
      higher = ap ending (run_says b bs s n (up k) (up l) g.1) ∙ p.higher;
    }
forbidden_step b bs s j k w ih forbidden q e =
    let f = ap ending (run_forbidden b bs s k q) in
    let h : j ≡ s = cc in
    let g = ap ending (run_forbidden b bs s (up k) (if_forbidden (reachable_goes b w) q)) in
    record { i = 0; at = omega arith; within = omega arith; u = (completion w).left; live = (completion w).good_end s; dead = λ l v. ap ending (run_forbidden b v s k q) ∙ sym f ∙ e; higher = cc }
forbidden_step b bs s j k w ih too_deep q e = cc (ap ending (run_deep b bs s k q))

pub forbidden_from : (t : List ℕ) (s j : ℕ) (k : List Frame) → Reachable k → ending (run t s k) ≡ Err (Forbidden j) → ForbiddenFrom t s j k
forbidden_from [] s j k w e = forbidden_end s j k (over k) w refl e
forbidden_from (b ∷ bs) s j k w e = forbidden_step b bs s j k w (λ l v. forbidden_from bs (suc s) j l v) (step k b) refl e

-- the fault at j is a bracket that opens a level too many, i bytes after s: some text goes on well up to there,
-- with one level more also past the bracket, and without it none
pub record TooDeepFrom (t : List ℕ) (s j : ℕ) (k : List Frame) : Type 0 where
  pub i : ℕ
  pub at : j ≡ s + i
  pub within : i < length t
  pub u : List ℕ
  pub live : ending (run (take i t ++ u) s k) ≡ Ok tt
  pub v : List ℕ
  pub higher : ending (run (take (suc i) t ++ v) s (up k)) ≡ Ok tt
  pub dead : (v : List ℕ) → ending (run (take (suc i) t ++ v) s k) ≡ Err (TooDeep j)

deep_end : (s j : ℕ) (k : List Frame) (x : Bool) → over k ≡ x → ending (run [] s k) ≡ Err (TooDeep j) → ⊥
unfolding run
deep_end s j k true q e = cc (ap ending (cond-true (over k) good (fault (Forbidden s)) q))
deep_end s j k false q e = cc (ap ending (cond-false (over k) good (fault (Forbidden s)) q))

deep_step : (b : ℕ) (bs : List ℕ) (s j : ℕ) (k : List Frame) → Reachable k → ((l : List Frame) → Reachable l → ending (run bs (suc s) l) ≡ Err (TooDeep j) → TooDeepFrom bs (suc s) j l) → (x : Step) → step k b ≡ x → ending (run (b ∷ bs) s k) ≡ Err (TooDeep j) → TooDeepFrom (b ∷ bs) s j k
deep_step b bs s j k w ih (go l) q e =
    let g = if_go (reachable_goes b w) l q in
    let p = ih l g.0 (sym (ap ending (run_go b bs s k l q)) ∙ e) in
    record {
      i = suc p.i;
      at = omega (arith, p.at);
      within = omega (arith, p.within);
      u = p.u;
      live = ap ending (run_go b (take p.i bs ++ p.u) s k l q) ∙ p.live;
      v = p.v;
      higher = ap ending (run_go b (take (suc p.i) bs ++ p.v) s (up k) (up l) g.1) ∙ p.higher;
      dead = λ v. ap ending (run_go b (take (suc p.i) bs ++ v) s k l q) ∙ p.dead v;
    }
deep_step b bs s j k w ih (says n l) q e =
    let g = if_says (reachable_goes b w) n l q in
    let p = ih l g.0 (sym (ap ending (run_says b bs s n k l q)) ∙ e) in
    record {
      i = suc p.i;
      at = omega (arith, p.at);
      within = omega (arith, p.within);
      u = p.u;
      live = ap ending (run_says b (take p.i bs ++ p.u) s n k l q) ∙ p.live;
      v = p.v;
      higher = ap ending (run_says b (take (suc p.i) bs ++ p.v) s n (up k) (up l) g.1) ∙ p.higher;
      dead = λ v. ap ending (run_says b (take (suc p.i) bs ++ v) s n k l q) ∙ p.dead v;
    }
deep_step b bs s j k w ih forbidden q e = cc (ap ending (run_forbidden b bs s k q))
deep_step b bs s j k w ih too_deep q e =
    let f = ap ending (run_deep b bs s k q) in
    let h : j ≡ s = cc in
    let g = if_deep (reachable_goes b w) q in
    record {
      i = 0;
      at = omega arith;
      within = omega arith;
      u = (completion w).left;
      live = (completion w).good_end s;
      v = (completion g.2).left;
      higher = ap ending (run_says b (completion g.2).left s g.0 (up k) g.1 g.3) ∙ (completion g.2).good_end (suc s);
      dead = λ v. ap ending (run_deep b v s k q) ∙ sym f ∙ e;
    }

pub too_deep_from : (t : List ℕ) (s j : ℕ) (k : List Frame) → Reachable k → ending (run t s k) ≡ Err (TooDeep j) → TooDeepFrom t s j k
too_deep_from [] s j k w e = absurd (deep_end s j k (over k) refl e)
too_deep_from (b ∷ bs) s j k w e = deep_step b bs s j k w (λ l v. too_deep_from bs (suc s) j l v) (step k b) refl e
