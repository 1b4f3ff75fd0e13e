use Rattle.std.proofs.Common.{◌≡◌, ℕ, true, false, List, drop, ap, ◌∙◌, Bor, rules}
use Rattle.text.specs.declared.reader.Reader.{Reader}
use Rattle.text.specs.declared.token.Token.{Token}
use Rattle.text.specs.Ahead.{kind_of, TokenRead}
use Rattle.table.specs.declared.fault.FormRule.TheVariants.{WrongKind}
use Rattle.table.specs.Words.{value_meaning}
use Rattle.table.specs.Form.{is_value_name}
use Rattle.table.specs.Works.{at_value}
use Rattle.table.proofs.Joining.{token_fails}
use Rattle.table.proofs.Asides.{any_value}
use Rattle.table.proofs.Rules.{not_string}
use Rattle.table.proofs.Reading.{string_read}
use Rattle.table.proofs.read.known_member.Goals as goal

pub returns-then-eq-clause-reads : goal.returns-then-eq-clause-reads
returns-then-eq-clause-reads c t q b =
    let v = c.in_ok-token.ensures in
    let y = c.in_ok-token.token in
    let e : is_value_name c.args.key ≡ true = search rules in
    any_value t c.args.key c.args.draft.now b c.args.levels y.offset y.value c.args.reader.now c.value.new.self c.of_value.result e (c.of_value.ensures _ v.holds ∙ ap (λ w. value_meaning (kind_of y.value) (drop y.offset w)) q) v

pub returns-in_default : goal.returns-in_default
returns-in_default c =
    let w = c.in_ok-token-2.ensures in
    let x = c.in_ok-token-2.token in
    let e : is_value_name c.args.key ≡ false = search rules in
    record {
      level = search rules;
      reads = λ t q b. token_fails t (at_value c.args.key c.args.draft.now b) (kind_of x.value) x.offset WrongKind x.offset w.passed (λ ps. not_string t c.args.draft.now b x.offset ps c.args.key x.value e c.in_default.not-String);
    }

string_token : (x : Token) (raw : Bor (List ℕ)) (lv i : ℕ) (r s : Reader) → x ≡ Token.String raw → TokenRead lv r s x i → TokenRead lv r s (Token.String raw) i
string_token x raw lv i r s e w = rw e at w

pub returns-clause-reads : goal.returns-clause-reads
returns-clause-reads c t q =
    let y = c.in_ok-token-2.token in
    let e : is_value_name c.args.key ≡ false = search rules in
    let w = string_token y.value c.in-String.raw c.args.levels y.offset _ _ c.in-String.is c.in_ok-token-2.ensures in
    string_read t c.args.levels y.offset c.in-String.raw c.args.key c.args.draft.now c.take.new.self c.args.reader.now c.token.new.self c.take.result q e w c.take.ensures
