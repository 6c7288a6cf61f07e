-- One outcome more of the write of a block.
use Rattle.std.proofs.Common.{◌≡◌, ◌≢◌, ℕ, ◌==◌, ◌+◌, ◌-◌, ◌<◌, ◌≤◌, nat_lt, Bool, true, false, cond, List, ◌++◌, length, get_or, set, refl, sym, ◌∙◌, ap, subst, arith, Some}
use Rattle.std.specs.Prelude.{count_by, slice_get}
use Rattle.std.proofs.lemmas.Bool.{eqb-true, eq-eqb, ltb-true, ltb-false}
use Rattle.std.proofs.lemmas.List.{get_or-set_same, get_or-set_other}
use Rattle.mj_angles.specs.Layout.{forward_of, safe_of}
use Rattle.rz_events.specs.Volume.{Volume}
use Rattle.rz_events.specs.declared.keys.Key.{Key}
use Rattle.rz_events.specs.declared.keys.Actor.{Actor}
use Rattle.rz_events.specs.declared.ends.Why.{Why}
use Rattle.rz_events.specs.declared.ends.Why.TheVariants as why
use Rattle.rz_events.specs.declared.ends.WriteEnd.TheVariants as write
use Rattle.rz_events.specs.declared.events.Event.{Event}
use Rattle.rz_core.specs.History.{Facts}
use Rattle.rz_core.specs.ExportRows.{HasKept}
use Rattle.rz_core.specs.Own.{last, since, is_begin}
use Rattle.rz_core.specs.Outcomes.{whys, why_at, is_failure}
use Rattle.rz_core.proofs.Extends.{Extends}
use Rattle.rz_client_model.specs.declared.writing.WriteStage.TheVariants as writing
use Rattle.rz_client_model.specs.declared.writing.SentRecords.{SentRecords}
use Rattle.rz_client_model.specs.Write.{is_kept, after_keep, unless_too_few, after_enrolled}
use Rattle.rz_play_laws.specs.Own.{IsPlacing, IsSending, IsWriteStage}
use Rattle.rz_client_model.proofs.Masks.{forward-less}
use Rattle.rz_play_laws.proofs.Tables.{whys-set, whys-long, count-set}
use Rattle.rz_play_laws.proofs.Words.{kept-more}

kept-no-failure : (w : Why) → is_kept w ≡ true → is_failure w ≡ false
kept-no-failure why.Kept is = refl
kept-no-failure why.Passed is = refl
kept-no-failure (_) is = cc

-- Position p of the write has the outcome w by the events xs, which begin no write; `kept` and `failed` are the counts then.
module _ (v : Volume) (f g : Facts) (ext : Extends f g) (xs o : List Event) (by : Actor) (key : Key) (places text : List ℕ)
    (placing : IsPlacing v f key.fid places) (t : SentRecords) (h : IsSending v f o by key places text t)
    (none : last is_begin (xs ++ o) ≡ last is_begin o) (later : since is_begin (xs ++ o) ≡ xs ++ since is_begin o)
    (p : ℕ) (w : Why) (low : p < length places)
    (here : (n : ℕ) → slice_get places p ≡ Some n → why_at key t.stamp p n (xs ++ since is_begin o) ≡ w)
    (there : (q n : ℕ) → q ≢ p → slice_get places q ≡ Some n → why_at key t.stamp q n (xs ++ since is_begin o) ≡ why_at key t.stamp q n (since is_begin o))
    (has : is_kept w ≡ true → (n : ℕ) × (slice_get places p ≡ Some n) × HasKept (xs ++ o) by n key t.stamp p) where
  told : whys key t.stamp (xs ++ since is_begin o) 0 places ≡ set (whys key t.stamp (since is_begin o) 0 places) p w
  told =
      let at_p : 0 + p ≡ p = omega arith in
      whys-set key t.stamp (xs ++ since is_begin o) (since is_begin o) 0 places p w low
      (λ n at. subst (λ z. why_at key t.stamp z n (xs ++ since is_begin o) ≡ w) (sym at_p) (here n at))
      (λ q n apart at.
      let at_q : 0 + q ≡ q = omega arith in
      subst (λ z. why_at key t.stamp z n (xs ++ since is_begin o) ≡ why_at key t.stamp z n (since is_begin o)) (sym at_q) (there q n apart at))

  table : set t.why p w ≡ whys key t.stamp (since is_begin (xs ++ o)) 0 places
  table = ap (λ ws. set ws p w) h.why_is ∙ sym told ∙ ap (λ z. whys key t.stamp z 0 places) (sym later)

  long : p < length t.why
  long = let l = whys-long key t.stamp (since is_begin o) 0 places in subst (λ (ws : List Why). p < length ws) (sym h.why_is) (omega (arith, l, low))

  now_kept : (q : ℕ) → is_kept (get_or (set t.why p w) q why.NotAsked) ≡ true → (n : ℕ) × (slice_get places q ≡ Some n) × HasKept (xs ++ o) by n key t.stamp q
  now_kept q is = go (q == p) refl
    where
      go : (b : Bool) → (q == p) ≡ b → (n : ℕ) × (slice_get places q ≡ Some n) × HasKept (xs ++ o) by n key t.stamp q
      go true at =
          let same : q ≡ p = eqb-true q p at in
          let read : get_or (set t.why p w) q why.NotAsked ≡ w =
          subst (λ z. get_or (set t.why p w) z why.NotAsked ≡ w) (sym same) (get_or-set_same t.why p w why.NotAsked long) in
          let mine = has (sym (ap is_kept read) ∙ is) in
          subst (λ z. (n : ℕ) × (slice_get places z ≡ Some n) × HasKept (xs ++ o) by n key t.stamp z) (sym same) mine
      go false at =
          let apart : q ≢ p = λ k. (let y : (q == p) ≡ true = eq-eqb q p k in cc) in
          let old = h.kept_at q (sym (ap is_kept (get_or-set_other t.why p q w why.NotAsked apart)) ∙ is) in
          (old.0, old.1, kept-more xs o by old.0 key t.stamp q old.2)

  -- positions ahead were not asked
  still_ahead : (n : ℕ) → (q : ℕ) → t.kept + t.failed ≤ q → q ≢ p → get_or (set t.why p w) q why.NotAsked ≡ why.NotAsked
  still_ahead n q far apart = get_or-set_other t.why p q w why.NotAsked apart ∙ h.ahead q far

  one_more : (test : Why → Bool) (old : Why) (b c : Bool) → get_or t.why p why.NotAsked ≡ old → test old ≡ b → test w ≡ c
      → count_by test (set t.why p w) + cond b 1 0 ≡ count_by test t.why + cond c 1 0
  one_more test old b c is was now =
      subst (λ z. count_by test (set t.why p w) + cond z 1 0 ≡ count_by test t.why + cond c 1 0) was
      (subst (λ z. count_by test (set t.why p w) + cond (test old) 1 0 ≡ count_by test t.why + cond z 1 0) now
      (count-set test t.why p w old long is))

  -- the stage with these counts goes on, or has ended where too much has failed
  goes_on : (kept failed : ℕ) → kept ≡ count_by is_kept (set t.why p w) → failed ≡ count_by is_failure (set t.why p w)
      → ((q : ℕ) → kept + failed ≤ q → get_or (set t.why p w) q why.NotAsked ≡ why.NotAsked)
      → kept ≤ forward_of v.layout → failed + forward_of v.layout ≤ safe_of v.layout
      → IsSending v g (xs ++ o) by key places text (record t { kept = kept; failed = failed; why = set t.why p w })
  goes_on kept failed kept_is failed_is ahead few spare = record {
    begun = none ∙ h.begun;
    wrote = ext.wrote t.stamp _ h.wrote;
    why_is = table;
    kept_is = kept_is;
    failed_is = failed_is;
    kept_at = now_kept;
    ahead = ahead;
    few = few;
    spare = spare;
  }

  pub failed_stage : (kept failed : ℕ) → kept ≡ count_by is_kept (set t.why p w) → failed ≡ count_by is_failure (set t.why p w)
      → ((q : ℕ) → kept + failed ≤ q → get_or (set t.why p w) q why.NotAsked ≡ why.NotAsked)
      → kept ≤ forward_of v.layout
      → IsWriteStage v g (xs ++ o) by key places text (unless_too_few v.layout (record t { kept = kept; failed = failed; why = set t.why p w }))
  failed_stage kept failed kept_is failed_is ahead few = go (nat_lt (safe_of v.layout - forward_of v.layout) failed) refl
    where
      next : SentRecords
      next = record t { kept = kept; failed = failed; why = set t.why p w }

      go : (b : Bool) → nat_lt (safe_of v.layout - forward_of v.layout) failed ≡ b
          → IsWriteStage v g (xs ++ o) by key places text (cond b (writing.Ended (write.TooFew (set t.why p w))) (writing.Sending next))
      go true past =
          let many = ltb-true (safe_of v.layout - forward_of v.layout) failed past in
          record {
            stamp = t.stamp;
            base = t.base;
            text = text;
            begun = none ∙ h.begun;
            places = places;
            placed = ext.places key.fid places placing.placed;
            causes_are = table;
            many = subst (λ z. safe_of v.layout - forward_of v.layout < z) failed_is many;
          }
      go false small =
          let most = ltb-false (safe_of v.layout - forward_of v.layout) failed small in
          let fits = forward-less v.layout in
          goes_on kept failed kept_is failed_is ahead few (omega (arith, most, fits))

  -- the next position was asked
  pub asked_stage : p ≡ t.kept + t.failed → t.kept < forward_of v.layout → (b : Bool) → is_kept w ≡ b → is_failure w ≡ cond b false true
      → IsWriteStage v g (xs ++ o) by key places text (after_keep v.layout t w)
  asked_stage next more b is fails = go b is fails
    where
      at_p : set t.why (t.kept + t.failed) w ≡ set t.why p w
      at_p = ap (λ z. set t.why z w) (sym next)

      ahead : (q : ℕ) → t.kept + t.failed + 1 ≤ q → get_or (set t.why p w) q why.NotAsked ≡ why.NotAsked
      ahead q far = let apart : q ≢ p = λ k. omega (arith, k, far, next) in still_ahead q q (omega (arith, far)) apart

      untouched : get_or t.why p why.NotAsked ≡ why.NotAsked
      untouched = h.ahead p (omega (arith, next))

      go : (b : Bool) → is_kept w ≡ b → is_failure w ≡ cond b false true → IsWriteStage v g (xs ++ o) by key places text (after_keep v.layout t w)
      go true is fails =
          let kept = one_more is_kept why.NotAsked false true untouched refl is in
          let failed = one_more is_failure why.NotAsked false false untouched refl fails in
          let k = h.kept_is in
          let n = h.failed_is in
          let s = h.spare in
          let new : SentRecords = record t { kept = t.kept + 1; why = set t.why (t.kept + t.failed) w } in
          subst (λ c. IsWriteStage v g (xs ++ o) by key places text (cond c (writing.Sending new) (unless_too_few v.layout (record t { failed = t.failed + 1; why = set t.why (t.kept + t.failed) w })))) (sym is)
          (subst (λ (ws : List Why). IsSending v g (xs ++ o) by key places text (record t { kept = t.kept + 1; why = ws })) (sym at_p)
          (goes_on (t.kept + 1) t.failed (omega (arith, kept, k)) (omega (arith, failed, n)) (λ q far. ahead q (omega (arith, far))) (omega (arith, more)) s))
      go false is fails =
          let kept = one_more is_kept why.NotAsked false false untouched refl is in
          let failed = one_more is_failure why.NotAsked false true untouched refl fails in
          let k = h.kept_is in
          let n = h.failed_is in
          let few = h.few in
          let new : SentRecords = record t { kept = t.kept + 1; why = set t.why (t.kept + t.failed) w } in
          subst (λ c. IsWriteStage v g (xs ++ o) by key places text (cond c (writing.Sending new) (unless_too_few v.layout (record t { failed = t.failed + 1; why = set t.why (t.kept + t.failed) w })))) (sym is)
          (subst (λ (ws : List Why). IsWriteStage v g (xs ++ o) by key places text (unless_too_few v.layout (record t { failed = t.failed + 1; why = ws }))) (sym at_p)
          (failed_stage t.kept (t.failed + 1) (omega (arith, kept, k)) (omega (arith, failed, n)) (λ q far. ahead q (omega (arith, far))) few))

  -- the position had the record and has failed after all
  pub enrolled_stage : is_kept (get_or t.why p why.NotAsked) ≡ true → w ≡ why.Enrolled → 0 < t.kept
      → IsWriteStage v g (xs ++ o) by key places text (after_enrolled v.layout t p)
  enrolled_stage was is some =
      let kept = one_more is_kept (get_or t.why p why.NotAsked) true false refl was (ap is_kept is) in
      let failed = one_more is_failure (get_or t.why p why.NotAsked) false true refl (kept-no-failure (get_or t.why p why.NotAsked) was) (ap is_failure is) in
      let k = h.kept_is in
      let n = h.failed_is in
      let few = h.few in
      subst (λ (z : Why). IsWriteStage v g (xs ++ o) by key places text (unless_too_few v.layout (record t { kept = t.kept - 1; failed = t.failed + 1; why = set t.why p z }))) is
      (failed_stage (t.kept - 1) (t.failed + 1) (omega (arith, kept, k, some)) (omega (arith, failed, n))
      (λ q far.
      let apart : q ≢ p = λ same. ahead_of (omega (arith, far, some, same)) in
      still_ahead q q (omega (arith, far, some)) apart)
      (omega (arith, few)))
    where
      ahead_of : t.kept + t.failed ≤ p → ⊥
      ahead_of far = let z = h.ahead p far in (let both : is_kept why.NotAsked ≡ true = sym (ap is_kept z) ∙ was in cc)
