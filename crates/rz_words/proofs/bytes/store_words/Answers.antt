use Rattle.std.proofs.Common.{◌≡◌, ◌<◌, ◌*◌, ◌/◌, ◌%◌, ◌++◌, List, [], ◌∷◌, ℕ, length, take, drop, get_or, arith, rules, refl, sym, ap, ◌∙◌}
use Rattle.std.proofs.lemmas.List.{take_at, take_all, take_more, take_more_set}
use Rattle.rz_words.specs.Grid.{bytes_from}
use Rattle.rz_words.proofs.Little.{take-bytes_from, byte-bytes_from, length-bytes_from}
use Rattle.rz_words.proofs.bytes.store_words.Goals as goal

pub rest-init : goal.rest-init
rest-init c =
    let w : ℕ = length c.args.out.now / 8 in
    let long : length c.write_u64_into.new.dst ≡ 8 * w = search rules in
    take_at c.write_u64_into.new.dst (drop (8 * w) c.args.out.now) (8 * w) long
    ∙ c.write_u64_into.ensures ∙ sym (take-bytes_from c.args.words.now w (8 * w) (omega arith) (omega arith))

pub rest-preserved : goal.rest-preserved
rest-preserved c =
    let i : ℕ = c.rest.i in
    let ws : List ℕ = c.args.words.now in
    let b : ℕ = get_or c.to_le_bytes.result (i % 8) 0 in
    let long : i < length c.rest.out = omega arith in
    let row : i < 8 * length ws = omega arith in
    let all = length-bytes_from ws in
    let place : i < length (bytes_from ws) = omega arith in
    take_more_set c.rest.out i b long
    ∙ ap (λ (xs : List ℕ). xs ++ b ∷ []) c.rest.invariant
    ∙ ap (λ (x : ℕ). take i (bytes_from ws) ++ x ∷ []) (byte-bytes_from ws c.to_le_bytes.result i b row c.to_le_bytes.ensures refl)
    ∙ sym (take_more (bytes_from ws) i 0 place)

pub returns : goal.returns
returns c =
    let all : length c.args.out.now ≡ c.rest.i = omega arith in
    sym (take_all c.rest.i c.rest.out (omega arith)) ∙ c.rest.invariant ∙ ap (λ n. take n (bytes_from c.args.words.now)) (sym all)
