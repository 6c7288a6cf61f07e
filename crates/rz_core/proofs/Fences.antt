-- The fences of a node's enrolments, and the nodes that bar a publish.
use Rattle.std.proofs.Common.{ℕ, zero, suc, Bool, true, false, ◌==◌, ◌&&◌, ◌≡◌, ◌⊎◌, inl, inr, ◌≤◌, ◌<◌, ◌+◌, nat_lt, List, [], ◌∷◌, Option, Some, None, cond, refl, sym, ◌∙◌, ap, subst, arith}
use Rattle.std.specs.Prelude.{slice_get}
use Rattle.std.specs.Int.{bit_at}
use Rattle.std.specs.Option.{option_map_or}
use Rattle.std.specs.FinMap as maps
use Rattle.std.proofs.lemmas.Bool.{eqb-true, eq-eqb, and_parts, and_from, ltb-true, ltb-false}
use Rattle.rz_events.specs.Volume.{Volume}
use Rattle.rz_events.specs.declared.keys.Actor.{Actor}
use Rattle.rz_events.specs.declared.export.Reply.{Reply}
use Rattle.rz_events.specs.declared.export.Reply.TheVariants as reply
use Rattle.rz_events.specs.declared.events.Event.{Event}
use Rattle.rz_events.specs.declared.events.Event.TheVariants as e
use Rattle.rz_export_model.specs.Export.{Export as ExportState, Enrolled, fence_of, barred}
use Rattle.rz_events.specs.Masks.{has_bit, HasBit}
use Rattle.rz_core.specs.History.{Facts, Has}
use Rattle.rz_core.specs.ExportWord.{last_drawn, enrolled, or_new}
use Rattle.rz_core.specs.ExportRows.{IsFree}
use Rattle.rz_core.proofs.NodeLaws.{IsRows}
use Rattle.rz_core.proofs.NodeSteps.{the_some}
use Rattle.rz_core.proofs.EnrollLaws.{AreEnrolled, enrolled-has, new_cases, fence_drawn}

-- the fence of the greatest loss of a node is the greatest
abbrev Rises : List Event → Type 0
Rises w = (n k j : ℕ) → enrolled w n k ≡ Some j → ((b : Actor) (l g : ℕ) → Has w (e.Enroll b n l g) → l ≤ k) → (b : Actor) (l g : ℕ) → Has w (e.Enroll b n l g) → g ≤ j

enroll_rises : (v : Volume) (f : Facts) (w : List Event) → IsRows v f w → (a : Actor) (m i c : ℕ) → ((b : Actor) (l g : ℕ) → Has w (e.Enroll b m l g) → l ≤ i)
    → c ≡ or_new (enrolled w m i) (last_drawn w) → Rises w → Rises (e.Enroll a m i c ∷ w)
enroll_rises v f w r a m i c most fence rises n k j is top b l g has = go ((n == m) && (k == i)) refl is has
  where
    older : n ≡ m → Has w (e.Enroll b n l g) → (enrolled w m i ≡ Some c) ⊎ (c ≡ last_drawn w + 1) → g ≤ c
    older same has (inl old) = rises m i c old most b l g (subst (λ z. Has w (e.Enroll b z l g)) same has)
    older same has (inr new) = let d = fence_drawn v f w r b n l g has in omega (arith, d, new)

    go : (t : Bool) → ((n == m) && (k == i)) ≡ t → cond t (Some c) (enrolled w n k) ≡ Some j → Has (e.Enroll a m i c ∷ w) (e.Enroll b n l g) → g ≤ j
    go true on is (inl same) = let own : c ≡ g = cc in let here = the_some c j is in omega (arith, own, here)
    go true on is (inr has) =
        let here = the_some c j is in
        let low = older (eqb-true n m (and_parts _ _ on).0) has (new_cases (enrolled w m i) (last_drawn w) c fence) in
        omega (arith, here, low)
    go false off is (inl same) =
        let at : m ≡ n = cc in
        let loss : i ≡ l = cc in
        let up = top b l g (inl same) in
        let was = enrolled-has w n k j is in
        let down = most was.0 k j (subst (λ z. Has w (e.Enroll was.0 z k j)) (sym at) was.1) in
        let on = and_from _ _ (eq-eqb n m (sym at)) (eq-eqb k i (omega (arith, loss, up, down))) in
        cc
    go false off is (inr has) = rises n k j is (λ b l g has. top b l g (inr has)) b l g has

fence_rises : (v : Volume) (f : Facts) (w : List Event) → IsRows v f w → Rises w
fence_rises v f [] r n k j is top b l g has = absurd has
fence_rises v f (e.Enroll a m i c ∷ w) r n k j is top b l g has = enroll_rises v f w r.0 a m i c r.1.2.top r.1.2.fence_is (fence_rises v f w r.0) n k j is top b l g has
fence_rises v f (x ∷ w) r n k j is top b l g (inl same) = cc
fence_rises v f (x ∷ w) r n k j is top b l g (inr has) = fence_rises v f w r.0 n k j is (λ b l g has. top b l g (inr has)) b l g has

-- the fence that the export has of a node
pub fence-top : (v : Volume) (f : Facts) (w : List Event) → IsRows v f w → (s : ExportState) → AreEnrolled s w → (n : ℕ) → IsFree w n (fence_of s n)
fence-top v f w r s a n = go (maps.get s.enrolled n) refl
  where
    go : (o : Option Enrolled) → maps.get s.enrolled n ≡ o → IsFree w n (option_map_or (λ (z : Enrolled). z.fence) o 0)
    go None q = λ b l g has. absurd (a.none n q b l g has)
    go (Some z) q = let i = a.some n z q in fence_rises v f w r n z.loss z.fence i.0 i.1

pub fence-has : (s : ExportState) (w : List Event) → AreEnrolled s w → (n stamp : ℕ) → stamp < fence_of s n → (by : Actor) × (loss : ℕ) × Has w (e.Enroll by n loss (fence_of s n))
fence-has s w a n stamp less = go (maps.get s.enrolled n) refl less
  where
    go : (o : Option Enrolled) → maps.get s.enrolled n ≡ o → stamp < option_map_or (λ (z : Enrolled). z.fence) o 0
        → (by : Actor) × (loss : ℕ) × Has w (e.Enroll by n loss (option_map_or (λ (z : Enrolled). z.fence) o 0))
    go None q less = absurd (omega (arith, less))
    go (Some z) q less = let i = a.some n z q in let has = enrolled-has w n z.loss z.fence i.0 in (has.0, z.loss, has.1)

-- Barred publishes.

shift : (i p : ℕ) → i + suc p ≡ (i + 1) + p
shift i p = omega arith

-- a node of the mask that does not bar the publish
passes : (s : ExportState) (mask stamp i n : ℕ) → (has_bit mask i && nat_lt stamp (fence_of s n)) ≡ false → HasBit mask i → fence_of s n ≤ stamp
passes s mask stamp i n off bit = ltb-false stamp (fence_of s n) (sym (ap (λ t. t && nat_lt stamp (fence_of s n)) (eq-eqb (bit_at mask i) 1 bit)) ∙ off)

first_passes : (s : ExportState) (mask stamp i m n : ℕ) → (has_bit mask i && nat_lt stamp (fence_of s m)) ≡ false → HasBit mask (i + 0) → Some m ≡ Some n → fence_of s n ≤ stamp
first_passes s mask stamp i m n off bit at =
    let here : i + 0 ≡ i = omega arith in
    subst (λ z. fence_of s z ≤ stamp) (the_some m n at) (passes s mask stamp i m off (subst (HasBit mask) here bit))

-- none of these nodes at a position of the mask was enrolled above the stamp; `i` is the position of the first
abbrev pub NoneBars : ExportState → ℕ → ℕ → ℕ → List ℕ → Type 0
NoneBars s mask stamp i places = (p n : ℕ) → HasBit mask (i + p) → slice_get places p ≡ Some n → fence_of s n ≤ stamp

pub barred-none : (s : ExportState) (mask stamp i : ℕ) (places : List ℕ) → barred s mask stamp i places ≡ None → NoneBars s mask stamp i places
barred-none s mask stamp i [] none p n bit at = cc
barred-none s mask stamp i (m ∷ places) none p n bit at =
    go (λ q. barred-none s mask stamp (i + 1) places q) (has_bit mask i && nat_lt stamp (fence_of s m)) refl none p bit at
  where
    go : (barred s mask stamp (i + 1) places ≡ None → NoneBars s mask stamp (i + 1) places)
        → (t : Bool) → (has_bit mask i && nat_lt stamp (fence_of s m)) ≡ t → cond t (Some (reply.Enrolled i (fence_of s m))) (barred s mask stamp (i + 1) places) ≡ None
        → (p : ℕ) → HasBit mask (i + p) → slice_get (m ∷ places) p ≡ Some n → fence_of s n ≤ stamp
    go rest true on none p bit at = cc
    go rest false off none zero bit at = first_passes s mask stamp i m n off bit at
    go rest false off none (suc p) bit at = rest none p n (subst (HasBit mask) (shift i p) bit) at

-- the least of them that was
pub record Bars (s : ExportState) (mask stamp i : ℕ) (places : List ℕ) (r : Reply) : Type 0 where
  pub place : ℕ
  pub node : ℕ
  pub is : r ≡ reply.Enrolled (i + place) (fence_of s node)
  pub named : HasBit mask (i + place)
  pub at : slice_get places place ≡ Some node
  pub above : stamp < fence_of s node
  pub least : (p n : ℕ) → p < place → HasBit mask (i + p) → slice_get places p ≡ Some n → fence_of s n ≤ stamp

pub barred-some : (s : ExportState) (mask stamp i : ℕ) (places : List ℕ) (r : Reply) → barred s mask stamp i places ≡ Some r → Bars s mask stamp i places r
barred-some s mask stamp i [] r is = cc
barred-some s mask stamp i (m ∷ places) r is =
    go (λ q. barred-some s mask stamp (i + 1) places r q) (has_bit mask i && nat_lt stamp (fence_of s m)) refl is
  where
    later : Bars s mask stamp (i + 1) places r → (has_bit mask i && nat_lt stamp (fence_of s m)) ≡ false
        → (p n q : ℕ) → p < suc q → ((j : ℕ) → j < q → HasBit mask ((i + 1) + j) → slice_get places j ≡ Some n → fence_of s n ≤ stamp)
        → HasBit mask (i + p) → slice_get (m ∷ places) p ≡ Some n → fence_of s n ≤ stamp
    later b off zero n q less rest bit at = first_passes s mask stamp i m n off bit at
    later b off (suc p) n q less rest bit at = rest p (omega (arith, less)) (subst (HasBit mask) (shift i p) bit) at

    go : (barred s mask stamp (i + 1) places ≡ Some r → Bars s mask stamp (i + 1) places r)
        → (t : Bool) → (has_bit mask i && nat_lt stamp (fence_of s m)) ≡ t → cond t (Some (reply.Enrolled i (fence_of s m))) (barred s mask stamp (i + 1) places) ≡ Some r
        → Bars s mask stamp i (m ∷ places) r
    go rest true on is =
        let here : i ≡ i + 0 = omega arith in
        let both = and_parts (has_bit mask i) (nat_lt stamp (fence_of s m)) on in
        record {
          place = 0;
          node = m;
          is = sym (the_some _ r is) ∙ ap (λ z. reply.Enrolled z (fence_of s m)) here;
          named = subst (HasBit mask) here (eqb-true (bit_at mask i) 1 both.0);
          at = refl;
          above = ltb-true stamp (fence_of s m) both.1;
          least = λ p n less bit at. absurd (omega (arith, less));
        }
    go rest false off is =
        let b = rest is in
        let there = sym (shift i b.place) in
        record {
          place = suc b.place;
          node = b.node;
          is = b.is ∙ ap (λ z. reply.Enrolled z (fence_of s b.node)) there;
          named = subst (HasBit mask) there b.named;
          at = b.at;
          above = b.above;
          least = λ p n less bit at. later b off p n b.place less (λ j. b.least j n) bit at;
        }
