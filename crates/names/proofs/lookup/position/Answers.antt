use Rattle.std.proofs.Common.{◌≡◌, true, false, [], get_or, arith, rules}
use Rattle.std.proofs.lemmas.Iterator.{first_from_Range}
use Rattle.text.specs.Strings.{stands, matching}
use Rattle.names.specs.Names.{names_of}
use Rattle.names.proofs.Looking.{names_count, place_found}
use Rattle.names.proofs.lookup.position.Goals as goal

pub returns-clause-value : goal.returns-clause-value
returns-clause-value c =
    let x = stands c.args.raw.now in
    let ns = names_of c.args.letters.now c.args.starts.now in
    let e = names_count c.args.letters.now c.args.starts.now in
    place_found x ns c.saturating_sub-count.result c.find-2.result (omega arith)
    (first_from_Range _ _ _ c.find-2.result (λ i. matching false x (get_or ns i []) ≡ true) (λ i. matching false x (get_or ns i []) ≡ false) c.find-2.ensures.ran (λ i q k. search rules) (λ i q k. search rules))

pub returns-then-unescaped-clause-value : goal.returns-then-unescaped-clause-value
returns-then-unescaped-clause-value c =
    let x = stands c.args.raw.now in
    let ns = names_of c.args.letters.now c.args.starts.now in
    let e = names_count c.args.letters.now c.args.starts.now in
    let same = c.unescaped.ensures.stands c.if-unescaped.true in
    place_found x ns c.saturating_sub-count.result c.find.result (omega arith)
    (first_from_Range _ _ _ c.find.result (λ i. matching false x (get_or ns i []) ≡ true) (λ i. matching false x (get_or ns i []) ≡ false) c.find.ensures.ran (λ i q k. rw same (search rules)) (λ i q k. rw same (search rules)))
