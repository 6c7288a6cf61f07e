-- A round, actor by actor.
use Rattle.std.proofs.Common.{ℕ, Bool, true, false, ◌≡◌, ◌+◌, ◌≤◌, ◌<◌, List, [], ◌∷◌, ◌++◌, Ok, Err, length, get_or, take, drop, subst, sym, ap, refl, arith, add-one, drop-cons, take-append-drop, zero, suc}
use Rattle.std.specs.List.{AllByRecursion}
use Rattle.std.proofs.lemmas.List.{take_more}
use Rattle.rz_events.specs.Volume.{Volume}
use Rattle.rz_events.specs.declared.keys.Actor.{Actor}
use Rattle.rz_events.specs.declared.export.Call.{Call}
use Rattle.rz_script.specs.Lines.{IsActor}
use Rattle.rz_play.specs.World.{World, has_work}
use Rattle.rz_play.specs.Free.{IsTurnOver}
use Rattle.rz_play.specs.Lines.{IsRoundOver, IsTurnIf}
use Rattle.rz_play.specs.Stops.{JournalRefused, most_turns}
use Rattle.rz_player.specs.declared.turns.CutCause.{CutCause}
use Rattle.rz_player.specs.declared.turns.CutCause.TheVariants as cut
use Rattle.rz_player.specs.Ends.{HadWork, IsLogOf, IsRoundPlayed, IsTurnRefused, IsTurnTaken, StopsAmong}
use Rattle.rz_player.proofs.Counts.{turn-counts}
use Rattle.rz_player.proofs.Sequences.{round-more}

pub actor-at : (xs : List Actor) (i : ℕ) (d : Actor) → AllByRecursion IsActor xs → i < length xs → IsActor (get_or xs i d)
actor-at [] i d all lt = absurd (omega arith)
actor-at (x ∷ xs) zero d all lt = all.0
actor-at (x ∷ xs) (suc i) d all lt = actor-at xs i d all.1 (omega arith)

pub split-at : (xs : List Actor) (i : ℕ) (d : Actor) → i < length xs → xs ≡ take i xs ++ get_or xs i d ∷ drop (i + 1) xs
split-at xs i d lt = let split = sym (take-append-drop i xs) in
    subst (λ (ys : List Actor). xs ≡ take i xs ++ ys) (rw (add-one) (drop-cons xs i d lt)) split

all-more : (w : World) (xs : List Actor) (by : Actor) → AllByRecursion (λ a. has_work (w.agendas a) ≡ false) xs → has_work (w.agendas by) ≡ false → AllByRecursion (λ a. has_work (w.agendas a) ≡ false) (xs ++ by ∷ [])
all-more w [] by all rests = (rests, tt)
all-more w (x ∷ xs) by all rests = (all.0, all-more w xs by all.1 rests)

no-fewer : (xs : List Actor) (w : World) (any : Bool) (mid : World) → HadWork xs w any mid → w.turns ≤ mid.turns
no-fewer xs w true mid h = omega arith
no-fewer xs w false mid h = let e : mid.turns ≡ w.turns = ap (λ (m : World). m.turns) h.0 in omega arith

turn-or : (b : Bool) (v : Volume) (tells : Bool) (by : Actor) (mid next : World) → b ≡ true → IsTurnOver v by tells mid next → IsTurnIf b v by tells mid next
turn-or true v tells by mid next is turn = turn
turn-or false v tells by mid next is turn = cc

idle-or : (b : Bool) (v : Volume) (tells : Bool) (by : Actor) (mid : World) → b ≡ false → IsTurnIf b v by tells mid mid
idle-or true v tells by mid is = cc
idle-or false v tells by mid is = refl

-- the actors before had their turns
pub record IsUpTo (v : Volume) (done : List Actor) (tells : Bool) (w : World) (any : Bool) (mid : World) : Type 0 where
  pub played : IsRoundOver v done tells w mid
  pub had : HadWork done w any mid
  pub few : mid.turns ≤ most_turns

taken : (v : Volume) (tells : Bool) (done : List Actor) (by : Actor) (w : World) (any : Bool) (mid next : World) → IsUpTo v done tells w any mid → has_work (mid.agendas by) ≡ true
    → IsTurnTaken v by tells mid (Ok tt) next → IsUpTo v (done ++ by ∷ []) tells w true next
taken v tells done by w any mid next h busy turn =
    let one = turn-counts v by tells mid next turn.0 in
    let some = no-fewer done w any mid h.had in
    record {
      played = round-more v tells done by w mid next h.played (turn-or (has_work (mid.agendas by)) v tells by mid next busy turn.0);
      had = omega (arith, one, some);
      few = omega (arith, one, turn.1);
    }

had-skipped : (done : List Actor) (by : Actor) (w : World) (any : Bool) (mid : World) → HadWork done w any mid → has_work (mid.agendas by) ≡ false → HadWork (done ++ by ∷ []) w any mid
had-skipped done by w true mid had rests = had
had-skipped done by w false mid had rests = (had.0, all-more w done by had.1 (subst (λ (m : World). has_work (m.agendas by) ≡ false) had.0 rests))

skipped : (v : Volume) (tells : Bool) (done : List Actor) (by : Actor) (w : World) (any : Bool) (mid : World) → IsUpTo v done tells w any mid → has_work (mid.agendas by) ≡ false → IsUpTo v (done ++ by ∷ []) tells w any mid
skipped v tells done by w any mid h rests = record {
  played = round-more v tells done by w mid mid h.played (idle-or (has_work (mid.agendas by)) v tells by mid rests);
  had = had-skipped done by w any mid h.had rests;
  few = h.few;
}

-- by their places in the list

pub taken-at : (v : Volume) (tells : Bool) (xs : List Actor) (i : ℕ) (d : Actor) (w : World) (any : Bool) (mid next : World) → i < length xs → IsUpTo v (take i xs) tells w any mid → has_work (mid.agendas (get_or xs i d)) ≡ true
    → IsTurnTaken v (get_or xs i d) tells mid (Ok tt) next → IsUpTo v (take (i + 1) xs) tells w true next
taken-at v tells xs i d w any mid next lt h busy turn = subst (λ (ys : List Actor). IsUpTo v ys tells w true next) (sym (take_more xs i d lt)) (taken v tells (take i xs) (get_or xs i d) w any mid next h busy turn)

pub skipped-at : (v : Volume) (tells : Bool) (xs : List Actor) (i : ℕ) (d : Actor) (w : World) (any : Bool) (mid : World) → i < length xs → IsUpTo v (take i xs) tells w any mid → has_work (mid.agendas (get_or xs i d)) ≡ false
    → IsUpTo v (take (i + 1) xs) tells w any mid
skipped-at v tells xs i d w any mid lt h rests = subst (λ (ys : List Actor). IsUpTo v ys tells w any mid) (sym (take_more xs i d lt)) (skipped v tells (take i xs) (get_or xs i d) w any mid h rests)

pub cut-at : (v : Volume) (tells : Bool) (xs : List Actor) (i : ℕ) (d : Actor) (w : World) (any : Bool) (mid next : World) (cause : CutCause) → i < length xs → IsUpTo v (take i xs) tells w any mid → has_work (mid.agendas (get_or xs i d)) ≡ true
    → IsTurnTaken v (get_or xs i d) tells mid (Err cause) next → IsRoundPlayed v xs tells w (Err cause) next
cut-at v tells xs i d w any mid next cut.TooManyTurns lt h busy turn = (
  take i xs,
  get_or xs i d,
  drop (i + 1) xs,
  split-at xs i d lt,
  subst (λ (m : World). IsRoundOver v (take i xs) tells w m) (sym turn.0) h.played,
  subst (λ (m : World). has_work (m.agendas (get_or xs i d)) ≡ true) (sym turn.0) busy,
  subst (λ (m : World). m.turns ≡ most_turns) (sym turn.0) turn.1,
)
cut-at v tells xs i d w any mid next cut.NoMemory lt h busy turn =
    (mid, (take i xs, get_or xs i d ∷ drop (i + 1) xs, split-at xs i d lt, h.played), h.few, turn)

-- the journal refused the call of that turn
pub refused-at : (v : Volume) (tells : Bool) (xs : List Actor) (i : ℕ) (d : Actor) (w : World) (any : Bool) (mid next : World) (c : Call) → i < length xs → IsUpTo v (take i xs) tells w any mid → has_work (mid.agendas (get_or xs i d)) ≡ true
    → IsTurnRefused v (get_or xs i d) c mid next → IsLogOf (StopsAmong v (JournalRefused c) xs tells w) next
refused-at v tells xs i d w any mid next c lt h busy turn = (mid, (take i xs, get_or xs i d, drop (i + 1) xs, split-at xs i d lt, h.played, busy, turn.0), h.few, turn.1)
