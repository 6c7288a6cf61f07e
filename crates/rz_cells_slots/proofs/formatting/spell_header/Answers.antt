-- Each field stays as it was written, since all later ones stand behind it.
use Rattle.std.proofs.Common.{◌≡◌, ℕ, List, length, take, set, ◌∙◌, arith, length-set}
use Rattle.std.proofs.lemmas.List.{get_or-set_same, take-set-le}
use Rattle.rz_record.proofs.Codec.{lower, number_at-front, byte-front}
use Rattle.rz_cells_slots.proofs.formatting.spell_header.Goals as goal

pub returns : goal.returns
returns c =
    let g = c.args.geometry.now in
    let a : List ℕ = c.put_u64.new.bytes in
    let b8 : List ℕ = set a 8 c.number.result in
    let b9 : List ℕ = set b8 9 g.bsize in
    let w : List ℕ = c.put_u16.new.bytes in
    let x : List ℕ = c.put_u32.new.bytes in
    let y : List ℕ = c.put_u64-2.new.bytes in
    let z : List ℕ = c.put_u64-3.new.bytes in
    let long8 : length b8 ≡ length a = length-set a 8 c.number.result in
    let z24 : take 24 z ≡ take 24 y = c.put_u64-3.ensures.front in
    let z16 : take 16 z ≡ take 16 x = lower 16 24 z y z24 (omega arith) ∙ c.put_u64-2.ensures.front in
    let z12 : take 12 z ≡ take 12 w = lower 12 16 z x z16 (omega arith) ∙ c.put_u32.ensures.front in
    let z10 : take 10 z ≡ take 10 b9 = lower 10 12 z w z12 (omega arith) ∙ c.put_u16.ensures.front in
    let z9 : take 9 z ≡ take 9 b8 = lower 9 10 z b9 z10 (omega arith) ∙ take-set-le 9 b8 9 g.bsize (omega arith) in
    let z8 : take 8 z ≡ take 8 a = lower 8 9 z b8 z9 (omega arith) ∙ take-set-le 8 a 8 c.number.result (omega arith) in
    record {
      magic_is = number_at-front 0 8 8 z a z8 (omega arith) ∙ c.put_u64.ensures.there ∙ c.magic.ensures;
      layout = byte-front 8 9 z b8 z9 (omega arith) ∙ get_or-set_same a 8 c.number.result 0 (omega arith) ∙ c.number.ensures.value;
      bsize = byte-front 9 10 z b9 z10 (omega arith) ∙ get_or-set_same b8 9 g.bsize 0 (omega (arith, long8));
      node = number_at-front 10 2 12 z w z12 (omega arith) ∙ c.put_u16.ensures.there;
      cells = number_at-front 12 4 16 z x z16 (omega arith) ∙ c.put_u32.ensures.there;
      fence_is = number_at-front 16 8 24 z y z24 (omega arith) ∙ c.put_u64-2.ensures.there;
      reserved = c.put_u64-3.ensures.there;
    }
