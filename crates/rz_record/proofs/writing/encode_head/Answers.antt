-- Each field stays as it was written, since all later ones stand behind it.
use Rattle.std.proofs.Common.{◌≡◌, ◌≤◌, ℕ, List, length, take, set, get_or, sym, ◌∙◌, arith, length-set}
use Rattle.std.proofs.lemmas.List.{get_or-set_same, take-set-le}
use Rattle.mj_angles.specs.Layout.{number_of}
use Rattle.rz_record.specs.Record.{IsHead}
use Rattle.rz_record.proofs.Codec.{lower, number_at-front, byte-front}
use Rattle.rz_record.proofs.writing.encode_head.Goals as goal

pub returns : goal.returns
returns c =
    let h = c.args.head.now in
    let a : List ℕ = c.put_u64.new.bytes in
    let b : List ℕ = c.put_u128.new.bytes in
    let d : List ℕ = c.put_u64-2.new.bytes in
    let e32 : List ℕ = set d 32 c.number.result in
    let e33 : List ℕ = set e32 33 h.bsize in
    let e34 : List ℕ = set e33 34 h.position in
    let e35 : List ℕ = set e34 35 0 in
    let f : List ℕ = c.put_u32.new.bytes in
    let z : List ℕ = c.put_u64-3.new.bytes in
    let long : 48 ≤ length d = omega arith in
    let long32 : length e32 ≡ length d = length-set d 32 c.number.result in
    let long33 : length e33 ≡ length d = length-set e32 33 h.bsize ∙ long32 in
    let long34 : length e34 ≡ length d = length-set e33 34 h.position ∙ long33 in
    let long35 : length e35 ≡ length d = length-set e34 35 0 ∙ long34 in
    let z40 : take 40 z ≡ take 40 f = c.put_u64-3.ensures.front in
    let z36 : take 36 z ≡ take 36 e35 = lower 36 40 z f z40 (omega arith) ∙ c.put_u32.ensures.front in
    let z35 : take 35 z ≡ take 35 e34 = lower 35 36 z e35 z36 (omega arith) ∙ take-set-le 35 e34 35 0 (omega arith) in
    let z34 : take 34 z ≡ take 34 e33 = lower 34 35 z e34 z35 (omega arith) ∙ take-set-le 34 e33 34 h.position (omega arith) in
    let z33 : take 33 z ≡ take 33 e32 = lower 33 34 z e33 z34 (omega arith) ∙ take-set-le 33 e32 33 h.bsize (omega arith) in
    let z32 : take 32 z ≡ take 32 d = lower 32 33 z e32 z33 (omega arith) ∙ take-set-le 32 d 32 c.number.result (omega arith) in
    let z24 : take 24 z ≡ take 24 b = lower 24 32 z d z32 (omega arith) ∙ c.put_u64-2.ensures.front in
    let z8 : take 8 z ≡ take 8 a = lower 8 24 z b z24 (omega arith) ∙ c.put_u128.ensures.front in
    record {
      room = omega (arith, long35);
      valid = c.requires.valid;
      stamp = sym (number_at-front 0 8 8 z a z8 (omega arith) ∙ c.put_u64.ensures.there);
      fid = sym (number_at-front 8 16 24 z b z24 (omega arith) ∙ c.put_u128.ensures.there);
      block = sym (number_at-front 24 8 32 z d z32 (omega arith) ∙ c.put_u64-2.ensures.there);
      layout = sym (byte-front 32 33 z e32 z33 (omega arith) ∙ get_or-set_same d 32 c.number.result 0 (omega arith) ∙ c.number.ensures.value);
      bsize = sym (byte-front 33 34 z e33 z34 (omega arith) ∙ get_or-set_same e32 33 h.bsize 0 (omega (arith, long32)));
      position = sym (byte-front 34 35 z e34 z35 (omega arith) ∙ get_or-set_same e33 34 h.position 0 (omega (arith, long33)));
      reserved = byte-front 35 36 z e35 z36 (omega arith) ∙ get_or-set_same e34 35 0 0 (omega (arith, long34));
      text_length = sym (number_at-front 36 4 40 z f z40 (omega arith) ∙ c.put_u32.ensures.there);
      base = sym c.put_u64-3.ensures.there;
    }
