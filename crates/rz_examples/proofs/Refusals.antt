-- Why each of the mistaken histories is not legal: the row of its newest event says so.
use Rattle.std.proofs.Common.{ℕ, false, ◌≡◌, ◌⊎◌, inl, inr, ◌<◌, List, [], ◌∷◌, Option, Some, None, refl, ap, subst, arith, length, ◌∙◌}
use Rattle.std.specs.List.{AllByRecursion}
use Rattle.std.specs.Int.Count.{ones}
use Rattle.rz_events.specs.declared.tree.TreeCall.TheVariants as call
use Rattle.rz_events.specs.declared.tree.TreeReply.TheVariants as reply
use Rattle.rz_events.specs.declared.events.Answer.TheVariants as answers
use Rattle.rz_events.specs.declared.events.Event.{Event}
use Rattle.rz_events.specs.declared.events.Event.TheVariants as e
use Rattle.rz_node_model.specs.Versions.{Stands}
use Rattle.rz_core.specs.History.{Begun, Has, of_actor}
use Rattle.rz_core.specs.Own.{HasDistinct, IsFalling}
use Rattle.rz_events.specs.Masks.{stamp_told}
use Rattle.rz_core.specs.ExportRows.{HasKept}
use Rattle.rz_core.specs.NodeRows.{IsNodeOf}
use Rattle.rz_core.specs.Outcomes.{seen_at, is_asked}
use Rattle.rz_core.specs.Legal.{IsLegal}
use Rattle.rz_safety.specs.Rebuilt.{Ready, IsRun, AreRebuilt}
use Rattle.rz_examples.specs.Plain.{plain, one, mender, path, file, block, hello, world, places}
use Rattle.rz_examples.specs.Ordinary.{kept_at, with_begin}
use Rattle.rz_examples.specs.Mistakes.{early, thin, drawn_twice, outrun, enrolled_named, under_fence, smaller, other_text, stale_look, older_stamp, joined, from_lost, unseen_move, idle_miss, late_outcome, unknown_stops, invented, hidden, late_refill, thin_refill}
use Rattle.rz_examples.specs.Answers.{part_found, read_elsewhere, part_short, counted_unwritten, made_by_rebuilder, refused_drop, fenced_drop, skipped, before_pass, passed_other}
use Rattle.rz_examples.proofs.Endings.{said-last, said-rebuilder}
use Rattle.rz_examples.proofs.Bytes.{IsFound, said-found}

-- Writes.

-- position 2 is named, and no node kept it
pub not_early : ¬ IsLegal plain early
not_early legal = let k = legal.1.row.publishable.publishing.kept 2 refl in none k.0 k.2
  where
    none : (n : ℕ) → HasKept (of_actor one (kept_at 2 1 ∷ kept_at 1 0 ∷ with_begin)) one n block 1 2 → ⊥
    none n (inl (inl is)) = cc
    none n (inl (inr (inl is))) = cc
    none n (inl (inr (inr (inl is)))) = cc
    none n (inl (inr (inr (inr (inl is))))) = cc
    none n (inl (inr (inr (inr (inr (inl is)))))) = cc
    none n (inl (inr (inr (inr (inr (inr (inl is))))))) = cc
    none n (inl (inr (inr (inr (inr (inr (inr has))))))) = has
    none n (inr passed) = never passed.0 passed.1
      where
        never : (held : ℕ) → Has (of_actor one (kept_at 2 1 ∷ kept_at 1 0 ∷ with_begin)) (e.Passed one n block 1 held) → ⊥
        never held (inl is) = cc
        never held (inr (inl is)) = cc
        never held (inr (inr (inl is))) = cc
        never held (inr (inr (inr (inl is)))) = cc
        never held (inr (inr (inr (inr (inl is))))) = cc
        never held (inr (inr (inr (inr (inr (inl is)))))) = cc
        never held (inr (inr (inr (inr (inr (inr has)))))) = has

-- two positions are fewer than three
pub not_thin : ¬ IsLegal plain thin
unfolding ones
not_thin legal = let q = legal.1.row.publishable.publishing.quorum in cc

-- the next number is 2
pub not_drawn_twice : ¬ IsLegal plain drawn_twice
not_drawn_twice legal = let n = legal.1.row.next in absurd (omega (arith, n))

-- the newest stamp begun is 2
pub not_outrun : ¬ IsLegal plain outrun
not_outrun legal = let n = legal.1.row.publishable.newest in absurd (omega (arith, n))

-- the fence of node 1 is 2
pub not_enrolled_named : ¬ IsLegal plain enrolled_named
not_enrolled_named legal = let n = legal.1.row.free 0 1 refl (places, refl, refl) _ 1 2 (inl refl) in absurd (omega (arith, n))

pub not_under_fence : ¬ IsLegal plain under_fence
not_under_fence legal = let n = legal.1.row.keep.fenced in absurd (omega (arith, n))

pub not_smaller : ¬ IsLegal plain smaller
not_smaller legal = let n = legal.1.row.above.0 in absurd (omega (arith, n))

-- Reads.

-- the stamp that a look was told
told_by : Option Event → ℕ
told_by (Some (e.Look by key answer)) = stamp_told answer
told_by _ = 0

text_in : Option Begun → List ℕ
text_in None = []
text_in (Some b) = b.text

first_of : List ℕ → ℕ
first_of [] = 0
first_of (b ∷ text) = b

differ : hello ≡ world → ⊥
unfolding first_of
differ same = let b : 104 ≡ 119 = ap first_of same in absurd (omega (arith, b))

pub not_other_text : ¬ IsLegal plain other_text
unfolding text_in
not_other_text legal = let w = legal.1.row.0.wrote in differ (ap text_in w.1 ∙ w.2)

-- the stamp that is published is 2
pub not_stale_look : ¬ IsLegal plain stale_look
not_stale_look legal = let t : 1 ≡ 2 = ap stamp_told legal.1.row.told in absurd (omega (arith, t))

-- the look was told 2
pub not_older_stamp : ¬ IsLegal plain older_stamp
unfolding told_by
not_older_stamp legal =
    let l = legal.1.row.0.looked in let t : 2 ≡ l.0.stamp = ap told_by l.1 in let s = l.2 in absurd (omega (arith, t, s))

-- two distinct positions are not among one
one_given : (p : ℕ) → HasDistinct 2 (p ∷ []) → ⊥
one_given p given = go given.0 given.1 given.2 given.3
  where
    go : (ps : List ℕ) → IsFalling ps → length ps ≡ 2 → AllByRecursion (λ q. Stands q (p ∷ [])) ps → ⊥
    go [] falls two all = absurd (omega (arith, two))
    go (a ∷ []) falls two all = absurd (omega (arith, two))
    go (a ∷ b ∷ more) falls two all = let less = falls.0.0 in apart less all.0 all.1.0
      where
        apart : b < a → Stands a (p ∷ []) → Stands b (p ∷ []) → ⊥
        apart less (inl x) (inl y) = absurd (omega (arith, less, x, y))
        apart less (inl x) (inr y) = y
        apart less (inr x) y = x

-- one node alone gave the record of stamp 2
pub not_joined : ¬ IsLegal plain joined
not_joined legal = one_given 0 legal.1.row.0.enough

pub not_from_lost : ¬ IsLegal plain from_lost
not_from_lost legal = let u = legal.1.row.up in cc

pub not_unseen_move : ¬ IsLegal plain unseen_move
not_unseen_move legal = let a = legal.1.row.0.again.1 in cc

pub not_idle_miss : ¬ IsLegal plain idle_miss
not_idle_miss legal = let o = legal.1.row in cc

-- Rebuilds.

pub not_late_refill : ¬ IsLegal plain late_refill
not_late_refill legal = let f = legal.1.row.refill.fence_is in absurd (omega (arith, f))

pub not_thin_refill : ¬ IsLegal plain thin_refill
not_thin_refill legal = one_given 1 legal.1.row.refill.rebuilding.enough

-- Outcomes and nodes.

-- node 4 has an outcome since the recheck
pub not_late_outcome : ¬ IsLegal plain late_outcome
not_late_outcome legal =
    let s = legal.1.row.0.short in
    let told : Some places ≡ Some s.places = s.placed in
    let same : s.places ≡ places = cc in
    let late = (subst (λ (ns : List ℕ). AllByRecursion (λ n. is_asked (seen_at block legal.1.row.0.published.stamp n (e.Missed one 4 false ∷ [])) ≡ false) ns) same s.ended).1.1.1.0 in
    cc

pub not_unknown_stops : ¬ IsLegal plain unknown_stops
not_unknown_stops legal = none legal.1.word
  where
    none : IsNodeOf plain 5 → ⊥
    none (inl is) = absurd (omega (arith, is))
    none (inr (inl is)) = absurd (omega (arith, is))
    none (inr (inr (inl is))) = absurd (omega (arith, is))
    none (inr (inr (inr (inl is)))) = absurd (omega (arith, is))
    none (inr (inr (inr (inr more)))) = more

-- node 4 holds nothing, and node 1 the first write's record
pub not_invented : ¬ IsLegal plain invented
not_invented legal = legal.1.row.told.0

pub not_hidden : ¬ IsLegal plain hidden
not_hidden legal = legal.1.row.told (inl refl)

-- Answers.

-- the byte 119 was not found
pub not_read_elsewhere : ¬ IsLegal plain read_elsewhere
not_read_elsewhere legal = go (said-found plain one 3 (of_actor one part_found) world legal.1.row).0
  where
    not_in_hello : Stands 119 hello → ⊥
    not_in_hello (inl is) = absurd (omega (arith, is))
    not_in_hello (inr (inl is)) = absurd (omega (arith, is))
    not_in_hello (inr (inr (inl is))) = absurd (omega (arith, is))
    not_in_hello (inr (inr (inr (inl is)))) = absurd (omega (arith, is))
    not_in_hello (inr (inr (inr (inr (inl is))))) = absurd (omega (arith, is))
    not_in_hello (inr (inr (inr (inr (inr none))))) = none

    go : ◌≡◌ {A = ℕ} 119 0 ⊎ IsFound (of_actor one part_found) 119 → ⊥
    go (inl is) = absurd (omega (arith, is))
    go (inr (inl there)) = not_in_hello there
    go (inr (inr none)) = none

-- the last block of the range was not acknowledged
pub not_counted_unwritten : ¬ IsLegal plain counted_unwritten
not_counted_unwritten legal = said-last plain one 2 (of_actor one part_short) (answers.Wrote 5) legal.1.row

-- a client's answer is none of a rebuilder
pub not_made_by_rebuilder : ¬ IsLegal plain made_by_rebuilder
not_made_by_rebuilder legal = said-rebuilder plain 1 1 (e.Meta mender (call.Create path) (reply.MadeFile (file 0)) ∷ []) (answers.Created 1) legal.1.row

-- a drop is passed over where the node is lost or down
pub not_fenced_drop : ¬ IsLegal plain fenced_drop
not_fenced_drop legal = said-last plain one 3 (of_actor one refused_drop) answers.Plain legal.1.row

-- the key that was told has to be refilled, or passed over, before the next one is asked for
pub not_skipped : AreRebuilt skipped → ⊥
not_skipped rebuilt = let r = rebuilt.1.rebuilt.2.1 in cc

-- with the stamp that was told
pub not_passed_other : AreRebuilt passed_other → ⊥
not_passed_other rebuilt = go rebuilt.1.node rebuilt.1.loss rebuilt.1.rebuilt.2
  where
    go : (n loss : ℕ) → IsRun (of_actor mender before_pass) n loss 2 1 (Ready (Some block)) → ⊥
    go n loss (inl k) = let z = k.1 in cc
    go n loss (inr (there, is, (a, done, more, k))) = let z = k.1 in let three : ◌≡◌ {A = ℕ} 3 1 = cc in absurd (omega (arith, three))
