use Rattle.std.proofs.Common.{arith, ◌≡◌, ◌<◌, ◌≤◌, ◌+◌, ◌*◌, ℕ, List, length, get_or, ap, sym, ◌∙◌, subst, ◌⊎◌, inl, inr}
use Rattle.std.proofs.lemmas.Bool.{cases_lt}
use Rattle.mj_angles.specs.Projection.{row_start}
use Rattle.mj_inverse.specs.declared.placed.Placed.{Placed}
use Rattle.mj_inverse.specs.Padded.{IsPlaced, AreBins, inner, width_of, bin_at, direction_at}
use Rattle.mj_inverse.proofs.Falling.{every_at, direction_here, bins_here, default_free, no_projection}
use Rattle.mj_inverse.proofs.sweep.fill_rows.Goals as goal

pub fill_row-requires-clause-given : goal.fill_row-requires-clause-given
fill_row-requires-clause-given c =
    let s : Placed = get_or c.args.all.now c.loop-n.n no_projection in
    let long : c.loop-n.n < length c.args.all.now = (let count = c.requires.count in omega arith) in
    every_at (IsPlaced c.args.frame.rows c.args.frame.cols (length c.args.words.now)) c.args.all.now c.loop-n.n s long (default_free c.args.all.now c.loop-n.n no_projection s long) c.requires.given

-- one more row
filled_more : (rows cols reach : ℕ) (ws : List ℕ) (all : List Placed) (old new : List ℕ) (n : ℕ) (s : Placed) → direction_at all n ≡ s.direction → ((i b : ℕ) → bin_at ws all n i b ≡ get_or ws (8 * (s.from + b) + i) 0) →
    ((i k : ℕ) → i < 8 → k < cols → inner new (width_of cols reach) reach i n k ≡ get_or ws (8 * (s.from + (row_start s.direction rows n + k)) + i) 0) →
    ((i l k : ℕ) → i < 8 → l < n → k < cols → inner new (width_of cols reach) reach i l k ≡ inner old (width_of cols reach) reach i l k) →
    AreBins rows cols reach ws all old n → AreBins rows cols reach ws all new (n + 1)
filled_more rows cols reach ws all old new n s turned binned here kept before = λ i l k small h near. by i l k small h near (cases_lt l n)
  where
    by : (i l k : ℕ) → i < 8 → l < n + 1 → k < cols → (l < n) ⊎ (n ≤ l) →
        inner new (width_of cols reach) reach i l k ≡ bin_at ws all l i (row_start (direction_at all l) rows l + k)
    by i l k small h near (inl less) = kept i l k small less near ∙ before i l k small less near
    by i l k small h near (inr more) =
        let e : n ≡ l = omega arith in
        let P : ℕ → Type 0 = λ y. inner new (width_of cols reach) reach i y k ≡ bin_at ws all y i (row_start (direction_at all y) rows y + k) in
        subst P e (here i k small near ∙ sym (binned i (row_start s.direction rows n + k)) ∙ ap (λ q. bin_at ws all n i (row_start q rows n + k)) (sym turned))

pub loop-n-preserved : goal.loop-n-preserved
loop-n-preserved c =
    let s : Placed = get_or c.args.all.now c.loop-n.n no_projection in
    let long : c.loop-n.n < length c.args.all.now = (let count = c.requires.count in omega arith) in
    let is = default_free c.args.all.now c.loop-n.n no_projection s long in
    record {
      padded = c.fill_row.ensures.padded;
      filled = filled_more c.args.frame.rows c.args.frame.cols c.args.frame.reach c.args.words.now c.args.all.now c.loop-n.grid c.fill_row.new.grid c.loop-n.n s (direction_here c.args.all.now c.loop-n.n s long is)
          (bins_here c.args.all.now c.loop-n.n s long is c.args.words.now) c.fill_row.ensures.here c.fill_row.ensures.before c.loop-n.invariant.filled;
    }

pub returns-clause-bins : goal.returns-clause-bins
returns-clause-bins c =
    let end : c.loop-n.n ≡ c.args.frame.rows = omega arith in
    let P : ℕ → Type 0 = λ n. AreBins c.args.frame.rows c.args.frame.cols c.args.frame.reach c.args.words.now c.args.all.now c.loop-n.grid n in
    subst P end c.loop-n.invariant.filled
