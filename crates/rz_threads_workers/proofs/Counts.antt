-- Words that are counted one after another, while the tokens of all of them are held.
use Rattle.std.proofs.Common.{◌≡◌, ◌≤◌, ◌<◌, ◌+◌, ℕ, zero, suc, List, [], Option, Some, None, length, append-nil, sym, refl, ap, ap₂, ◌∙◌, arith}
use Rattle.rz_events.specs.declared.events.Word.{Word}
use Rattle.rz_events.specs.declared.events.Event.{Event}
use Rattle.rz_chronicle.specs.Keys.{IsLater, events_at, moves_of, owner, word_key}
use Rattle.rz_chronicle.specs.Holds.{Stays}
use Rattle.rz_chronicle.specs.Rules.{PassView}
use Rattle.rz_threads_steps.proofs.Added.{count-length}
use Rattle.rz_threads_workers.specs.Gathered.{PassGoesOn}
use Rattle.rz_threads_workers.specs.Moves.{HoldsAll}
use Rattle.rz_threads_workers.proofs.Gathered.{goes-nowhere, goes-further}

-- how many events of the words at the first places of a book of these nodes a history has
unfoldable pub moves_before : ℕ → List ℕ → List Event → ℕ
moves_before zero sids h = 0
moves_before (suc place) sids h = moves_before place sids h + moves_of (owner sids place) h

-- the same of all its 338 places
abbrev pub moves_in : List ℕ → List Event → ℕ
moves_in sids h = moves_before 338 sids h

-- What a word has moved.

-- a word whose token is held has moved no more
moves-same : (w : Option Word) (old new : List Event) → ((x : Word) → w ≡ Some x → events_at (word_key x) new ≡ events_at (word_key x) old) → moves_of w new ≡ moves_of w old
moves-same None old new same = refl
moves-same (Some x) old new same = count-length (word_key x) new ∙ (ap (λ (es : List Event). length es) (same x refl) ∙ sym (count-length (word_key x) old))

moves-next : (place : ℕ) (sids : List ℕ) (h : List Event) → moves_before (suc place) sids h ≡ moves_before place sids h + moves_of (owner sids place) h
unfolding moves_before
moves-next place sids h = refl

moves-more : (place : ℕ) (sids : List ℕ) (h : List Event) → moves_before (place + 1) sids h ≡ moves_before place sids h + moves_of (owner sids place) h
moves-more place sids h = let next : place + 1 ≡ suc place = omega arith in ap (λ (n : ℕ). moves_before n sids h) next ∙ moves-next place sids h

module _ (sids ks : List ℕ) (old new : List Event) (holds : HoldsAll sids ks) (stays : Stays ks old new) where
  place-same : (place : ℕ) → place < 338 → moves_of (owner sids place) new ≡ moves_of (owner sids place) old
  place-same place low = moves-same (owner sids place) old new (λ w is. stays (word_key w) (holds place w low is))

  before-same : (place : ℕ) → place ≤ 338 → moves_before place sids new ≡ moves_before place sids old
  unfolding moves_before
  before-same zero low = refl
  before-same (suc place) low = ap₂ (λ (a b : ℕ). a + b) (before-same place (omega (arith, low))) (place-same place (omega (arith, low)))

-- the words at the first places are counted
pub record Counted (sids : List ℕ) (old now : PassView) (place sum : ℕ) : Type 0 where
  pub goes : PassGoesOn old now
  pub few : place ≤ 338
  pub sum_is : sum ≡ moves_before place sids old.log

none-moved : (sids : List ℕ) (h : List Event) → 0 ≡ moves_before 0 sids h
unfolding moves_before
none-moved sids h = refl

pub counted-first : (sids : List ℕ) (p : PassView) → Counted sids p p 0 0
counted-first sids p = record { goes = goes-nowhere p; few = omega arith; sum_is = none-moved sids p.log }

-- one step of a pass that keeps its tokens
steps-on : (mid new : PassView) → new.actor ≡ mid.actor → new.keys ≡ mid.keys → IsLater mid.log new.log → Stays mid.keys mid.log new.log → PassGoesOn mid new
steps-on mid new actor keys later stays = record { actor = actor; more = []; keys = keys ∙ sym (append-nil mid.keys); stays = stays; later = later }

pub counted-more : (sids : List ℕ) (old mid new : PassView) (place sum count all : ℕ) → HoldsAll sids old.keys → place < 338 → Counted sids old mid place sum
    → new.actor ≡ mid.actor → new.keys ≡ mid.keys → IsLater mid.log new.log → Stays mid.keys mid.log new.log → count ≡ moves_of (owner sids place) new.log → all ≡ sum + count
    → Counted sids old new (place + 1) all
counted-more sids old mid new place sum count all holds low so actor keys later stays moved is =
    let goes = goes-further old mid new so.goes (steps-on mid new actor keys later stays) in
    let here : count ≡ moves_of (owner sids place) old.log = moved ∙ place-same sids old.keys old.log new.log holds goes.stays place low in
    record { goes = goes; few = omega (arith, low); sum_is = is ∙ (ap₂ (λ (a b : ℕ). a + b) so.sum_is here ∙ sym (moves-more place sids old.log)) }

-- all words are counted
pub counted-old : (sids : List ℕ) (old now : PassView) (place sum : ℕ) → 338 ≤ place → Counted sids old now place sum → sum ≡ moves_in sids old.log
counted-old sids old now place sum past so = let last : place ≡ 338 = omega (arith, past, so.few) in so.sum_is ∙ ap (λ (n : ℕ). moves_before n sids old.log) last

pub counted-now : (sids : List ℕ) (old now : PassView) (place sum : ℕ) → HoldsAll sids old.keys → 338 ≤ place → Counted sids old now place sum → sum ≡ moves_in sids now.log
counted-now sids old now place sum holds past so =
    counted-old sids old now place sum past so ∙ sym (before-same sids old.keys old.log now.log holds so.goes.stays 338 (omega arith))
