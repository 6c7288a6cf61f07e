-- Published blocks that a node lacks are counted one after the other.
use Rattle.std.proofs.Common.{ℕ, ◌≡◌, ◌<◌, ◌≤◌, ◌+◌, ◌-◌, ◌^◌, ◌∙◌, Bool, true, false, cond, List, [], ◌∷◌, ◌++◌, Option, Some, None, refl, sym, ap, subst, arith, append_assoc, leb-true, leb-false}
use Rattle.std.specs.Prelude.{min, count_by, nat_le}
use Rattle.std.proofs.Math.Nat.{min-eq_left, min-eq_right}
use Rattle.std.proofs.lemmas.List.{append-nil}
use Rattle.std.proofs.lemmas.List.Sums.{sum_by_push}
use Rattle.rz_events.specs.Volume.{Volume}
use Rattle.rz_events.specs.declared.keys.Key.{Key}
use Rattle.rz_events.specs.declared.files.Listed.{Listed}
use Rattle.rz_events.specs.declared.events.Event.{Event}
use Rattle.rz_export_model.specs.Export.{published_after}
use Rattle.rz_contents.specs.Model.{export_at}
use Rattle.rz_scrub_report.specs.Scrubs.{AreListed}
use Rattle.rz_store_turns.specs.Telling.{is_missing, missing_among, AreMissing}

-- these blocks were counted, the last one of which is `after`: whatever is listed then comes behind them
pub record AreCounted (v : Volume) (h : List Event) (n : ℕ) (after : Option Key) (count : ℕ) : Type 0 where
  pub seen : List Listed
  pub goes : (rest : List Listed) → AreListed (export_at v h) after rest → AreListed (export_at v h) None (seen ++ rest)
  pub count_is : count ≡ missing_among h n seen

pub none-counted : (v : Volume) (h : List Event) (n : ℕ) → AreCounted v h n None 0
none-counted v h n = record { seen = []; goes = λ rest listed. listed; count_is = refl }

pub all-counted : (v : Volume) (h : List Event) (n : ℕ) (after : Option Key) (count : ℕ) → AreCounted v h n after count → None ≡ published_after (export_at v h) after → AreMissing v h n count
all-counted v h n after count it none = record {
  blocks = it.seen;
  all = subst (AreListed (export_at v h) None) (append-nil it.seen) (it.goes [] (sym none));
  count_is = it.count_is;
}

-- one more is counted, where it can be
capped : (k m : ℕ) → min (min k m + 1) m ≡ min (k + 1) m
capped k m = go (nat_le m k) refl
  where
    go : (b : Bool) → nat_le m k ≡ b → min (min k m + 1) m ≡ min (k + 1) m
    go true is = let low : m ≤ k = leb-true m k is in ap (λ (x : ℕ). min (x + 1) m) (min-eq_right low) ∙ min-eq_right (omega arith) ∙ sym (min-eq_right (omega (arith, low)))
    go false is = let high : k < m = leb-false m k is in ap (λ (x : ℕ). min (x + 1) m) (min-eq_left (omega (arith, high)))

counted-as : (h : List Event) (n : ℕ) (seen : List Listed) (l : Listed) (b : Bool) → is_missing h n l ≡ b → missing_among h n (seen ++ l ∷ []) ≡ cond b (min (missing_among h n seen + 1) (2 ^ 64 - 1)) (missing_among h n seen)
counted-as h n seen l true is =
    ap (λ (k : ℕ). min k (2 ^ 64 - 1)) (sum_by_push (λ (x : Listed). cond (is_missing h n x) 1 0) seen l ∙ ap (λ (b : Bool). count_by (is_missing h n) seen + cond b 1 0) is)
    ∙ sym (capped (count_by (is_missing h n) seen) (2 ^ 64 - 1))
counted-as h n seen l false is =
    ap (λ (k : ℕ). min k (2 ^ 64 - 1)) (sum_by_push (λ (x : Listed). cond (is_missing h n x) 1 0) seen l ∙ ap (λ (b : Bool). count_by (is_missing h n) seen + cond b 1 0) is ∙ omega arith)

pub counted-then : (v : Volume) (h : List Event) (n : ℕ) (after : Option Key) (count more : ℕ) (l : Listed) (b : Bool) → AreCounted v h n after count → Some l ≡ published_after (export_at v h) after → b ≡ is_missing h n l
    → more ≡ cond b (min (count + 1) (2 ^ 64 - 1)) count → AreCounted v h n (Some l.key) more
counted-then v h n after count more l b it found told is = record {
  seen = it.seen ++ l ∷ [];
  goes = λ rest listed. subst (AreListed (export_at v h) None) (sym (append_assoc it.seen (l ∷ []) rest)) (it.goes (l ∷ rest) (sym found, listed));
  count_is = is ∙ ap (λ (c : ℕ). cond b (min (c + 1) (2 ^ 64 - 1)) c) it.count_is ∙ sym (counted-as h n it.seen l b (sym told));
}
