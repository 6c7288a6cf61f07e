-- One more line of a file, and one more file.
use Rattle.std.proofs.Common.{ℕ, ◌≡◌, ◌+◌, ◌/◌, ◌%◌, List, [], ◌∷◌, ◌++◌, length, map, refl, sym, ap, ◌∙◌, append-nil, append_assoc, add-one, arith}
use Rattle.std.specs.List.{flat_map, range_with_len}
use Rattle.std.proofs.lemmas.List.{length_push, map-id}
use Rattle.std.proofs.lemmas.List.Concat.{flat_map-append}
use Rattle.std.proofs.lemmas.List.FromFn.{map-range_with_len_more}
use Rattle.rand_pcg.specs.Lcg.{Lcg}
use Rattle.rz_events.specs.declared.operations.Datum.TheVariants.{Made}
use Rattle.rz_script.specs.declared.line.Line.{Line}
use Rattle.rz_script.specs.Scripts.{Script, with_line}
use Rattle.rz_generate.specs.Draws.{draw, drawn_from, after}
use Rattle.rz_generate.specs.Workload.{path_of, create_line, put_line, last_block, seed_of, last_bytes, whole_put, puts, gets, file_lines, before_file, after_file, numbered_file, files, with_lines}

pub after-more : (g : Lcg) (k : ℕ) → after g (k + 1) ≡ drawn_from (after g k)
after-more g k = ap (after g) (add-one k)

pub before-more : (g : Lcg) (n : ℕ) → before_file g (n + 1) ≡ after_file (before_file g n)
before-more g n = ap (before_file g) (add-one n)

range-more : (n : ℕ) → range_with_len 0 (n + 1) ≡ range_with_len 0 n ++ n ∷ []
range-more n =
    sym (map-id (range_with_len 0 (n + 1)))
    ∙ map-range_with_len_more (λ (x : ℕ). x) 0 n n (omega arith)
    ∙ ap (λ (xs : List ℕ). xs ++ n ∷ []) (map-id (range_with_len 0 n))

pub files-more : (g : Lcg) (n : ℕ) → files g (n + 1) ≡ files g n ++ numbered_file g n
unfolding files
files-more g n =
    ap (flat_map (numbered_file g)) (range-more n)
    ∙ flat_map-append (numbered_file g) (range_with_len 0 n) (n ∷ [])
    ∙ ap (λ (ls : List Line). flat_map (numbered_file g) (range_with_len 0 n) ++ ls) (append-nil (numbered_file g n))

-- lines that were added, and one more
pub line-more : (old cur new : Script) (xs ys : List Line) (l : Line) → cur ≡ with_lines old xs → new ≡ with_line cur l → ys ≡ xs ++ l ∷ [] → new ≡ with_lines old ys
line-more old cur new xs ys l c n y =
    let made : List Line → Script = λ zs. record { volume = old.volume; lines = zs } in
    n ∙ ap (λ s. with_line s l) c ∙ ap made (append_assoc old.lines xs (l ∷ []) ∙ ap (λ (zs : List Line). old.lines ++ zs) (sym y))

-- lines that were added, and more of them
pub lines-more : (old cur new : Script) (xs ys zs : List Line) → cur ≡ with_lines old xs → new ≡ with_lines cur ys → zs ≡ xs ++ ys → new ≡ with_lines old zs
lines-more old cur new xs ys zs c n z =
    let made : List Line → Script = λ ls. record { volume = old.volume; lines = ls } in
    n ∙ ap (λ s. with_lines s ys) c ∙ ap made (append_assoc old.lines xs ys ∙ ap (λ (ls : List Line). old.lines ++ ls) (sym z))

-- no lines were added
pub none-more : (s : Script) → s ≡ with_lines s []
none-more s = let made : List Line → Script = λ zs. record { volume = s.volume; lines = zs } in ap made (sym (append-nil s.lines))

pub line-count : (cur new : Script) (l : Line) → new ≡ with_line cur l → length new.lines ≡ length cur.lines + 1
line-count cur new l is = ap (λ (s : Script). length s.lines) is ∙ length_push cur.lines l

pub files-none : (g : Lcg) → files g 0 ≡ []
unfolding files
files-none g = refl

pub file-numbered : (g h : Lcg) (n : ℕ) → h ≡ before_file g n → numbered_file g n ≡ file_lines (1 + n / 25) (path_of (1 + n / 25) (1 + n % 25)) h
unfolding numbered_file
file-numbered g h n is = ap (λ (x : Lcg). file_lines (1 + n / 25) (path_of (1 + n / 25) (1 + n % 25)) x) (sym is)

-- what two more draws after those of the seeds are
two-more : (g : Lcg) (k : ℕ) → drawn_from (after g (k + 1)) ≡ after g (k + 2)
two-more g k = let same : k + 1 + 1 ≡ k + 2 = omega arith in sym (after-more g (k + 1)) ∙ ap (after g) same

three-more : (g : Lcg) (k : ℕ) → drawn_from (after g (k + 2)) ≡ after g (k + 3)
three-more g k = let same : k + 2 + 1 ≡ k + 3 = omega arith in sym (after-more g (k + 2)) ∙ ap (after g) same

pub after-whole : (g h : Lcg) (n : ℕ) → n ≡ last_block g → h ≡ after g (n + 1) → drawn_from (drawn_from h) ≡ after_file g
unfolding after_file
after-whole g h n n_is h_is =
    ap (λ (x : Lcg). drawn_from (drawn_from x)) (h_is ∙ ap (λ (k : ℕ). after g (k + 1)) n_is)
    ∙ ap drawn_from (two-more g (last_block g))
    ∙ three-more g (last_block g)

-- a whole block is written with the seed that was drawn
pub whole-is : (client : ℕ) (path : List ℕ) (g h : Lcg) (n seed : ℕ) → h ≡ after g (n + 1) → seed ≡ draw h % 256
    → whole_put client path g n ≡ put_line client path n (Made 4096 seed)
unfolding seed_of
whole-is client path g h n seed h_is s_is =
    ap (λ (s : ℕ). put_line client path n (Made 4096 s)) (sym (s_is ∙ ap (λ (x : Lcg). draw x % 256) h_is))

-- all blocks of a file are written
pub puts-whole : (old cur new : Script) (client : ℕ) (path : List ℕ) (g h : Lcg) (n last seed bytes : ℕ) → n ≡ last_block g → last ≡ last_block g
    → h ≡ after g (n + 1) → seed ≡ draw h % 256 → bytes ≡ 1 + draw (drawn_from h) % 4096
    → cur ≡ with_lines old (map (whole_put client path g) (range_with_len 0 n)) → new ≡ with_line cur (put_line client path last (Made bytes seed))
    → new ≡ with_lines old (puts client path g)
unfolding puts last_bytes seed_of
puts-whole old cur new client path g h n last seed bytes n_is last_is h_is s_is b_is cur_is new_is =
    let end = last_block g in
    let whole = map (whole_put client path g) (range_with_len 0 end) in
    let before : cur ≡ with_lines old whole = cur_is ∙ ap (λ (k : ℕ). with_lines old (map (whole_put client path g) (range_with_len 0 k))) n_is in
    let at : h ≡ after g (end + 1) = h_is ∙ ap (λ (k : ℕ). after g (k + 1)) n_is in
    let seed_is : seed ≡ seed_of g end = s_is ∙ ap (λ (x : Lcg). draw x % 256) at in
    let bytes_is : bytes ≡ last_bytes g = b_is ∙ ap (λ (x : Lcg). 1 + draw x % 4096) (ap drawn_from at ∙ two-more g end) in
    let line_is : put_line client path last (Made bytes seed) ≡ put_line client path end (Made (last_bytes g) (seed_of g end)) =
    ap (λ (k : ℕ). put_line client path k (Made bytes seed)) last_is
    ∙ ap (λ (k : ℕ). put_line client path end (Made k seed)) bytes_is
    ∙ ap (λ (k : ℕ). put_line client path end (Made (last_bytes g) k)) seed_is in
    line-more old cur new whole (puts client path g) (put_line client path end (Made (last_bytes g) (seed_of g end))) before (new_is ∙ ap (with_line cur) line_is) refl

-- a file is made, written and read
pub file-whole : (a b d : Script) (client : ℕ) (path : List ℕ) (g : Lcg) (last : ℕ) → b ≡ with_line a (create_line client path)
    → d ≡ with_lines b (puts client path g) → last ≡ last_block g
    → with_lines d (gets client path (last + 1)) ≡ with_lines a (file_lines client path g)
unfolding file_lines
file-whole a b d client path g last b_is d_is last_is =
    let made = create_line client path in
    let written = puts client path g in
    let read = gets client path (last + 1) in
    let two : d ≡ with_lines a (made ∷ written) = lines-more a b d (made ∷ []) written (made ∷ written) b_is d_is refl in
    lines-more a d (with_lines d read) (made ∷ written) read (made ∷ (written ++ read)) two refl refl
    ∙ ap (λ (k : ℕ). with_lines a (made ∷ (written ++ gets client path (k + 1)))) last_is
