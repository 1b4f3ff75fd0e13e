use Rattle.std.proofs.Common.{◌≡◌, ℕ, zero, suc, ◌⊎◌, ◌+◌, ◌<◌, List, [], ◌∷◌, drop, length, is_some, sym, ap, ◌∙◌, refl, inl, inr, ⊎_elim, arith, Bor, rules}
use Rattle.std.proofs.lemmas.Bool.{cases_lt}
use Rattle.std.proofs.lemmas.Bool.Decides.{nat_tests}
use Rattle.text.specs.declared.reader.Reader.{Reader}
use Rattle.text.specs.declared.token.Token.{Token}
use Rattle.text.specs.declared.token.Token.TheVariants.{String, Number, True, False, Null}
use Rattle.text.specs.Machine.{Kind, Frame, value, chars, says, forbidden, event, letters, step, over, string, literal_true, literal_false, literal_null}
use Rattle.text.specs.Ahead.{here, Inside, Passed, StringRead, Quotes, NumberRead, Bracket, kind_of, after_token, length_of, Holds, Opened, TokenRead, ReadsTokenHere}
use Rattle.text.proofs.Steps.{told, announced, bad_here, bad_end, then_passed, passed_halted, broken}
use Rattle.text.proofs.reader.Reader.token_here.Goals as goal
use Rattle.text.proofs.reader.Reader.token_here.Goals.{in_default-via-in-Some+in_default+then-this-lt48, in_default-via-in-Some+in_default+else-this-lt48+else-this-lt58, in_default-via-in_default}

token_read : (d : ℕ) (r s : Reader) (x : Token) → Opened x d → Holds (drop r.at r.text.now) x → s.at ≡ r.at + length_of (drop r.at r.text.now) x → r.at < s.at → Passed (λ k. value d ∷ k) (after_token x d) (event (kind_of x) r.at) r s → TokenRead d r s x r.at
token_read d r s x o h e m p = record { from = omega arith; opened = o; moves = m; token = record { holds = h; to = e }; passed = p }

-- the first letter of a literal announces it
to_literal : (r : Reader) (d : ℕ) (n : Kind) (b : ℕ) (cs : List ℕ) → Inside r → here r ≡ b → ((k : List Frame) → step (value d ∷ k) b ≡ says n (letters cs k)) → Passed (λ k. value d ∷ k) (λ k. letters (b ∷ cs) k) (event n r.at) r r
unfolding step
to_literal r d n b cs h e q = announced n (λ k. letters cs k) h (λ k. rw e (q k)) (λ k. grind (arith, nat_tests))

value_string : (d : ℕ) (k : List Frame) → step (value d ∷ k) 34 ≡ says string (chars ∷ k)
unfolding step
value_string d k = refl

string_token : (d : ℕ) (r s : Reader) (x : Bor (List ℕ)) → StringRead r s x.now → TokenRead d r s (String x) r.at
string_token d r s x p = token_read d r s (String x) tt p.holds p.to p.moves (p.passed string (λ k. value d ∷ k) (λ k. k) (value_string d))

number_token : (d : ℕ) (r s : Reader) (x : Bor (List ℕ)) → NumberRead r s x.now → TokenRead d r s (Number x) r.at
number_token d r s x p = token_read d r s (Number x) tt p.holds p.to p.moves (p.passed d)

value_quotes : {r : Reader} (d : ℕ) → here r ≡ 34 → Quotes string (λ k. value d ∷ k) (λ k. k) r
unfolding step over
value_quotes d e = record { byte = λ i k. rw e refl; end = λ i k. refl }

-- what stands here is no bracket
no_bracket : (r : Reader) (d : ℕ) → (here r ≡ 123 → ⊥) → (here r ≡ 91 → ⊥) → Bracket r → d ≡ 0
no_bracket r d p q (i, inl e) = absurd (p e)
no_bracket r d p q (i, inr e) = absurd (q e)

bracket_opens : (d b : ℕ) → step (value d ∷ []) b ≡ forbidden → (b ≡ 123) ⊎ (b ≡ 91) → ⊥
unfolding step
bracket_opens zero b f (inl e) = cc (rw e at f)
bracket_opens zero b f (inr e) = cc (rw e at f)
bracket_opens (suc d) b f (inl e) = cc (rw e at f)
bracket_opens (suc d) b f (inr e) = cc (rw e at f)

pub returns-in_err-string-in-Some-eq34 : goal.returns-in_err-string-in-Some-eq34
returns-in_err-string-in-Some-eq34 c = broken (ReadsTokenHere _ _ _) _ c.from_residual-in_err-string-in-Some-eq34.ensures.1 (no_bracket c.args.self.now _ (λ e. search rules) (λ e. search rules), c.in_err-string-in-Some-eq34.ensures string _ _ (value_quotes c.args.levels (search rules)))

pub returns-in_ok-string-in-Some-eq34 : goal.returns-in_ok-string-in-Some-eq34
returns-in_ok-string-in-Some-eq34 c = string_token _ _ _ _ c.in_ok-string-in-Some-eq34.ensures

pub returns-in_err-number-in-Some-eq45 : goal.returns-in_err-number-in-Some-eq45
returns-in_err-number-in-Some-eq45 c = broken (ReadsTokenHere _ _ _) _ c.from_residual-in_err-number-in-Some-eq45.ensures.1 (no_bracket c.args.self.now _ (λ e. search rules) (λ e. search rules), c.in_err-number-in-Some-eq45.ensures c.args.levels)

pub returns-in_ok-number-in-Some-eq45 : goal.returns-in_ok-number-in-Some-eq45
returns-in_ok-number-in-Some-eq45 c = number_token _ _ _ _ c.in_ok-number-in-Some-eq45.ensures

pub returns-in_err-letters-in-Some-t : goal.returns-in_err-letters-in-Some-t
unfolding step
returns-in_err-letters-in-Some-t c = broken (ReadsTokenHere _ _ _) _ c.from_residual-in_err-letters-in-Some-t.ensures.1 (no_bracket c.args.self.now _ (λ e. search rules) (λ e. search rules), passed_halted (λ _. refl) (to_literal _ _ literal_true 116 (114 ∷ 117 ∷ 101 ∷ []) (search rules) (search rules) (λ k. refl)) c.in_err-letters-in-Some-t.ensures)

pub returns-in_ok-letters-in-Some-t : goal.returns-in_ok-letters-in-Some-t
unfolding step
returns-in_ok-letters-in-Some-t c = let p = c.in_ok-letters-in-Some-t.ensures in token_read _ _ _ True tt tt p.1 (omega (arith, p.1)) (then_passed (to_literal _ _ literal_true 116 (114 ∷ 117 ∷ 101 ∷ []) (search rules) (search rules) (λ k. refl)) p.0)

pub returns-in_err-letters-in-Some-f : goal.returns-in_err-letters-in-Some-f
unfolding step
returns-in_err-letters-in-Some-f c = broken (ReadsTokenHere _ _ _) _ c.from_residual-in_err-letters-in-Some-f.ensures.1 (no_bracket c.args.self.now _ (λ e. search rules) (λ e. search rules), passed_halted (λ _. refl) (to_literal _ _ literal_false 102 (97 ∷ 108 ∷ 115 ∷ 101 ∷ []) (search rules) (search rules) (λ k. refl)) c.in_err-letters-in-Some-f.ensures)

pub returns-in_ok-letters-in-Some-f : goal.returns-in_ok-letters-in-Some-f
unfolding step
returns-in_ok-letters-in-Some-f c = let p = c.in_ok-letters-in-Some-f.ensures in token_read _ _ _ False tt tt p.1 (omega (arith, p.1)) (then_passed (to_literal _ _ literal_false 102 (97 ∷ 108 ∷ 115 ∷ 101 ∷ []) (search rules) (search rules) (λ k. refl)) p.0)

pub returns-in_err-letters-in-Some-n : goal.returns-in_err-letters-in-Some-n
unfolding step
returns-in_err-letters-in-Some-n c = broken (ReadsTokenHere _ _ _) _ c.from_residual-in_err-letters-in-Some-n.ensures.1 (no_bracket c.args.self.now _ (λ e. search rules) (λ e. search rules), passed_halted (λ _. refl) (to_literal _ _ literal_null 110 (117 ∷ 108 ∷ 108 ∷ []) (search rules) (search rules) (λ k. refl)) c.in_err-letters-in-Some-n.ensures)

pub returns-in_ok-letters-in-Some-n : goal.returns-in_ok-letters-in-Some-n
unfolding step
returns-in_ok-letters-in-Some-n c = let p = c.in_ok-letters-in-Some-n.ensures in token_read _ _ _ Null tt tt p.1 (omega (arith, p.1)) (then_passed (to_literal _ _ literal_null 110 (117 ∷ 108 ∷ 108 ∷ []) (search rules) (search rules) (λ k. refl)) p.0)

pub returns-in_default : goal.returns-in_default
unfolding step over
returns-in_default c =
    let bad : Inside c.args.self.now → (k : List Frame) → step (value c.args.levels ∷ k) (here c.args.self.now) ≡ forbidden = λ i k. let w = c.requires i in elim c.in_default.branch [ in_default-via-in-Some+in_default+then-this-lt48 v ↦ grind (arith, nat_tests) | in_default-via-in-Some+in_default+else-this-lt48+else-this-lt58 v ↦ grind (arith, nat_tests) | in_default-via-in_default v ↦ absurd (told c.args.self.now _ c.peek.ensures (sym c.map.ensures.variant ∙ ap is_some v.in_default.is) i) ] in (
      λ b. absurd (bracket_opens _ _ (bad b.0 []) b.1),
      ⊎_elim
          (λ i. bad_here i c.forbidden.ensures (bad i))
          (λ i. bad_end i c.forbidden.ensures (λ k. refl))
          (cases_lt c.args.self.now.at (length c.args.self.now.text.now)),
    )
