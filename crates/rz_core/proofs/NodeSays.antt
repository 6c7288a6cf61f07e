-- What is so of a node's state where a call is answered so.
use Rattle.std.proofs.Common.{ℕ, Bool, true, false, ◌≡◌, ◌⊎◌, inl, inr, ◌<◌, ◌≤◌, ◌==◌, ◌+◌, ◌-◌, ◌^◌, nat_le, Option, Some, None, cond, refl, sym, subst}
use Rattle.std.proofs.lemmas.Bool.{eqb-true, leb-true, leb-false}
use Rattle.rz_events.specs.declared.keys.Key.{Key}
use Rattle.rz_events.specs.declared.records.Held.{Held}
use Rattle.rz_events.specs.declared.nodes.Phase.{Phase}
use Rattle.rz_events.specs.declared.nodes.Phase.TheVariants.{Up, Down, Lost}
use Rattle.rz_events.specs.declared.nodes.KeepAnswer.{KeepAnswer}
use Rattle.rz_events.specs.declared.nodes.KeepAnswer.TheVariants as keep
use Rattle.rz_events.specs.declared.nodes.RefillAnswer.{RefillAnswer}
use Rattle.rz_events.specs.declared.nodes.RefillAnswer.TheVariants as refill
use Rattle.rz_events.specs.declared.nodes.FetchAnswer.{FetchAnswer}
use Rattle.rz_events.specs.declared.nodes.FetchAnswer.TheVariants as fetch
use Rattle.rz_events.specs.declared.nodes.DropAnswer.{DropAnswer}
use Rattle.rz_events.specs.declared.nodes.DropAnswer.TheVariants as drop
use Rattle.rz_events.specs.declared.nodes.ReplaceAnswer.{ReplaceAnswer}
use Rattle.rz_events.specs.declared.nodes.ReplaceAnswer.TheVariants as replace
use Rattle.rz_node_model.specs.Versions.{passes_keep, passes_refill, lesser_of}
use Rattle.rz_node_model.specs.Records.{held_of, stamp_of, base_of, found, key_at, least_block}
use Rattle.rz_node_model.specs.States.{NodeState}
use Rattle.rz_node_model.specs.Answers.{is_full, keep_in, keep_room, keep_unless, keep_answer, IsKeepAnswer, refill_in, refill_room, refill_unless, refill_answer, IsRefillAnswer, fetch_in, fetch_found, fetch_answer, IsFetchAnswer, drop_in, drop_least, drop_lesser, drop_answer, IsDropAnswer, next_loss, lose_in, stop_in, replace_in, replace_answer, IsReplaceAnswer}

-- Keeps.

pub record Keeps (cells : ℕ) (s : NodeState) (key : Key) (stamp : ℕ) : Type 0 where
  pub up : s.phase ≡ Up
  pub above : s.fence < stamp
  pub passes : passes_keep stamp_of stamp (held_of s.held key) ≡ None
  pub room : is_full cells s.held key ≡ false

abbrev pub KeepSays : ℕ → NodeState → Key → ℕ → KeepAnswer → Type 0
KeepSays cells s key stamp keep.Kept = Keeps cells s key stamp
KeepSays cells s key stamp keep.DiskFault = Keeps cells s key stamp
KeepSays cells s key stamp (keep.Passed now) = (s.phase ≡ Up) × (s.fence < stamp) × (passes_keep stamp_of stamp (held_of s.held key) ≡ Some now)
KeepSays cells s key stamp keep.Lost = s.phase ≡ Lost
KeepSays cells s key stamp keep.Down = s.phase ≡ Down
KeepSays cells s key stamp (keep.Fenced told) = (s.phase ≡ Up) × (stamp ≤ s.fence) × (told ≡ s.fence)
KeepSays cells s key stamp keep.Full = (s.phase ≡ Up) × (is_full cells s.held key ≡ true)

sure_keep : (cells : ℕ) (s : NodeState) (key : Key) (stamp : ℕ) → KeepSays cells s key stamp (keep_answer cells s key stamp)
sure_keep cells s key stamp = go s.phase refl (nat_le stamp s.fence) refl (passes_keep stamp_of stamp (held_of s.held key)) refl (is_full cells s.held key) refl
  where
    go : (p : Phase) → s.phase ≡ p → (t : Bool) → nat_le stamp s.fence ≡ t
        → (o : Option ℕ) → passes_keep stamp_of stamp (held_of s.held key) ≡ o → (u : Bool) → is_full cells s.held key ≡ u
        → KeepSays cells s key stamp (keep_in p (cond t (keep.Fenced s.fence) (keep_unless o (keep_room u))))
    go Lost p t l o m u q = p
    go Down p t l o m u q = p
    go Up p true l o m u q = (p, leb-true _ _ l, refl)
    go Up p false l (Some now) m u q = (p, leb-false _ _ l, m)
    go Up p false l None m true q = (p, q)
    go Up p false l None m false q = record { up = p; above = leb-false _ _ l; passes = m; room = q }

pub keep-says : (cells : ℕ) (s : NodeState) (key : Key) (stamp : ℕ) (given : KeepAnswer) → IsKeepAnswer (keep_answer cells s key stamp) given → KeepSays cells s key stamp given
keep-says cells s key stamp keep.DiskFault is = subst (KeepSays cells s key stamp) is (sure_keep cells s key stamp)
keep-says cells s key stamp given is = subst (KeepSays cells s key stamp) (sym is) (sure_keep cells s key stamp)

-- Refills.

pub record Refills (cells : ℕ) (s : NodeState) (fence : ℕ) (key : Key) (stamp : ℕ) : Type 0 where
  pub up : s.phase ≡ Up
  pub own : fence ≡ s.fence
  pub passes : passes_refill stamp_of base_of stamp (held_of s.held key) ≡ None
  pub room : is_full cells s.held key ≡ false

abbrev pub RefillSays : ℕ → NodeState → ℕ → Key → ℕ → RefillAnswer → Type 0
RefillSays cells s fence key stamp refill.Kept = Refills cells s fence key stamp
RefillSays cells s fence key stamp refill.DiskFault = Refills cells s fence key stamp
RefillSays cells s fence key stamp (refill.Passed now) =
    (s.phase ≡ Up) × (fence ≡ s.fence) × (passes_refill stamp_of base_of stamp (held_of s.held key) ≡ Some now)
RefillSays cells s fence key stamp refill.Lost = s.phase ≡ Lost
RefillSays cells s fence key stamp refill.Down = s.phase ≡ Down
RefillSays cells s fence key stamp (refill.OtherFence told) = (s.phase ≡ Up) × (told ≡ s.fence)
RefillSays cells s fence key stamp refill.Full = (s.phase ≡ Up) × (is_full cells s.held key ≡ true)

sure_refill : (cells : ℕ) (s : NodeState) (fence : ℕ) (key : Key) (stamp : ℕ) → RefillSays cells s fence key stamp (refill_answer cells s fence key stamp)
sure_refill cells s fence key stamp =
    go s.phase refl (fence == s.fence) refl (passes_refill stamp_of base_of stamp (held_of s.held key)) refl (is_full cells s.held key) refl
  where
    go : (p : Phase) → s.phase ≡ p → (t : Bool) → (fence == s.fence) ≡ t
        → (o : Option ℕ) → passes_refill stamp_of base_of stamp (held_of s.held key) ≡ o → (u : Bool) → is_full cells s.held key ≡ u
        → RefillSays cells s fence key stamp (refill_in p (cond t (refill_unless o (refill_room u)) (refill.OtherFence s.fence)))
    go Lost p t l o m u q = p
    go Down p t l o m u q = p
    go Up p false l o m u q = (p, refl)
    go Up p true l (Some now) m u q = (p, eqb-true _ _ l, m)
    go Up p true l None m true q = (p, q)
    go Up p true l None m false q = record { up = p; own = eqb-true _ _ l; passes = m; room = q }

pub refill-says : (cells : ℕ) (s : NodeState) (fence : ℕ) (key : Key) (stamp : ℕ) (given : RefillAnswer)
    → IsRefillAnswer (refill_answer cells s fence key stamp) given → RefillSays cells s fence key stamp given
refill-says cells s fence key stamp refill.DiskFault is = subst (RefillSays cells s fence key stamp) is (sure_refill cells s fence key stamp)
refill-says cells s fence key stamp given is = subst (RefillSays cells s fence key stamp) (sym is) (sure_refill cells s fence key stamp)

-- Fetches.

abbrev pub FetchSays : NodeState → Key → ℕ → FetchAnswer → Type 0
FetchSays s key stamp (fetch.Held r) = (s.phase ≡ Up) × (found stamp (held_of s.held key) ≡ Some r)
FetchSays s key stamp fetch.Nothing = (s.phase ≡ Up) × (found stamp (held_of s.held key) ≡ None)
FetchSays s key stamp fetch.Lost = s.phase ≡ Lost
FetchSays s key stamp fetch.Down = s.phase ≡ Down
FetchSays s key stamp fetch.DiskFault = s.phase ≡ Up

sure_fetch : (s : NodeState) (key : Key) (stamp : ℕ) → FetchSays s key stamp (fetch_answer s key stamp)
sure_fetch s key stamp = go s.phase refl (found stamp (held_of s.held key)) refl
  where
    go : (p : Phase) → s.phase ≡ p → (o : Option Held) → found stamp (held_of s.held key) ≡ o → FetchSays s key stamp (fetch_in p (fetch_found o))
    go Lost p o m = p
    go Down p o m = p
    go Up p None m = (p, m)
    go Up p (Some r) m = (p, m)

pub fetch-says : (s : NodeState) (key : Key) (stamp : ℕ) (given : FetchAnswer) → IsFetchAnswer (fetch_answer s key stamp) given → FetchSays s key stamp given
fetch-says s key stamp fetch.DiskFault is = (subst (FetchSays s key stamp) is.1 (sure_fetch s key stamp)).0
fetch-says s key stamp given is = subst (FetchSays s key stamp) (sym is) (sure_fetch s key stamp)

-- Drops.

pub record Drops (s : NodeState) (fid block stamp : ℕ) : Type 0 where
  pub up : s.phase ≡ Up
  pub least : least_block s.held fid ≡ Some block
  pub lesser : (r : Held) × (lesser_of (held_of s.held (key_at fid block)) ≡ Some r) × (r.stamp ≡ stamp)

abbrev pub DropSays : NodeState → ℕ → DropAnswer → Type 0
DropSays s fid (drop.Dropped block stamp more) = Drops s fid block stamp
DropSays s fid (drop.DiskFault block stamp) = Drops s fid block stamp
DropSays s fid drop.Nothing = (s.phase ≡ Up)
    × ((least_block s.held fid ≡ None) ⊎ ((block : ℕ) × (least_block s.held fid ≡ Some block) × (lesser_of (held_of s.held (key_at fid block)) ≡ None)))
DropSays s fid drop.Lost = s.phase ≡ Lost
DropSays s fid drop.Down = s.phase ≡ Down

lesser_drop : (s : NodeState) (fid block : ℕ) → s.phase ≡ Up → least_block s.held fid ≡ Some block
    → (o : Option Held) → lesser_of (held_of s.held (key_at fid block)) ≡ o → DropSays s fid (drop_lesser s.held fid block o)
lesser_drop s fid block up least None q = (up, inr (block, least, q))
lesser_drop s fid block up least (Some r) q = record { up = up; least = least; lesser = (r, q, refl) }

sure_drop : (s : NodeState) (fid : ℕ) → DropSays s fid (drop_answer s fid)
sure_drop s fid = go s.phase refl (least_block s.held fid) refl
  where
    go : (p : Phase) → s.phase ≡ p → (o : Option ℕ) → least_block s.held fid ≡ o → DropSays s fid (drop_in p (drop_least s.held fid o))
    go Lost p o m = p
    go Down p o m = p
    go Up p None m = (p, inl m)
    go Up p (Some block) m = lesser_drop s fid block p m (lesser_of (held_of s.held (key_at fid block))) refl

pub drop-says : (s : NodeState) (fid : ℕ) (given : DropAnswer) → IsDropAnswer (drop_answer s fid) given → DropSays s fid given
drop-says s fid (drop.DiskFault block stamp) is = subst (DropSays s fid) is.1 (sure_drop s fid)
drop-says s fid given is = subst (DropSays s fid) (sym is) (sure_drop s fid)

-- Replacements.

abbrev pub ReplaceSays : NodeState → ℕ → ReplaceAnswer → Type 0
ReplaceSays s loss replace.Replaced = (s.phase ≡ Lost) × (loss ≡ s.losses)
ReplaceSays s loss replace.DiskFault = (s.phase ≡ Lost) × (loss ≡ s.losses)
ReplaceSays s loss replace.NoMemory = (s.phase ≡ Lost) × (loss ≡ s.losses)
ReplaceSays s loss replace.NotLost = ¬ (s.phase ≡ Lost)
ReplaceSays s loss (replace.OtherLoss now) = (s.phase ≡ Lost) × (now ≡ s.losses)

sure_replace : (s : NodeState) (loss : ℕ) → ReplaceSays s loss (replace_answer s loss)
sure_replace s loss = go s.phase refl (loss == s.losses) refl
  where
    go : (p : Phase) → s.phase ≡ p → (t : Bool) → (loss == s.losses) ≡ t → ReplaceSays s loss (replace_in p t s.losses)
    go Lost p true l = (p, eqb-true _ _ l)
    go Lost p false l = (p, refl)
    go Down p t l = λ lost. cc
    go Up p t l = λ lost. cc

pub replace-says : (s : NodeState) (loss : ℕ) (given : ReplaceAnswer) → IsReplaceAnswer (replace_answer s loss) given → ReplaceSays s loss given
replace-says s loss replace.DiskFault is = subst (ReplaceSays s loss) is (sure_replace s loss)
replace-says s loss replace.NoMemory is = subst (ReplaceSays s loss) is (sure_replace s loss)
replace-says s loss given is = subst (ReplaceSays s loss) (sym is) (sure_replace s loss)

-- Losses and stops.

next_says : (losses loss : ℕ) → Some loss ≡ next_loss losses → loss ≡ losses + 1
next_says losses loss q = go (losses == 2 ^ 64 - 1) q
  where
    go : (t : Bool) → Some loss ≡ cond t None (Some (losses + 1)) → loss ≡ losses + 1
    go true q = cc
    go false q = cc

pub lose-says : (p : Phase) (losses loss : ℕ) → Some loss ≡ lose_in p losses → (¬ (p ≡ Lost)) × (loss ≡ losses + 1)
lose-says Lost losses loss q = cc
lose-says Down losses loss q = (λ lost. cc, next_says losses loss q)
lose-says Up losses loss q = (λ lost. cc, next_says losses loss q)

pub stop-says : (p : Phase) → true ≡ stop_in p → p ≡ Up
stop-says Lost q = cc
stop-says Down q = cc
stop-says Up q = refl
