-- Logs that go on from one another.
use Rattle.std.proofs.Common.{ℕ, List, [], ◌∷◌, ◌++◌, Option, Some, None, refl, sym, ap, ◌∙◌, append_assoc, inr}
use Rattle.rz_events.specs.declared.events.Event.{Event}
use Rattle.rz_chronicle.specs.Keys.{IsLater}
use Rattle.rz_chronicle.specs.Holds.{Stays, Commits}
use Rattle.rz_chronicle.proofs.Histories.{later-self}
use Rattle.rz_shared_locked.specs.Adding.{AddsEvent}

pub later-trans : (a b c : List Event) → IsLater a b → IsLater b c → IsLater a c
later-trans a b c p q = (q.0 ++ p.0, q.1 ∙ ap (λ (l : List Event). q.0 ++ l) p.1 ∙ sym (append_assoc q.0 p.0 a))

pub later-event : (h : List Event) (x : Event) → IsLater h (x ∷ h)
later-event h x = (x ∷ [], refl)

pub stays-trans : (ks : List ℕ) (a b c : List Event) → Stays ks a b → Stays ks b c → Stays ks a c
stays-trans ks a b c p q k one = q k one ∙ p k one

-- what holds of a list of keys holds of a shorter one
pub stays-fewer : (j : ℕ) (ks : List ℕ) (a b : List Event) → Stays (j ∷ ks) a b → Stays ks a b
stays-fewer j ks a b p k one = p k (inr one)

-- an addition after a beginning that goes on
abbrev pub adds-after : (ks : List ℕ) (a b c : List Event) (event : Option Event) → IsLater a b → Stays ks a b → AddsEvent ks b event c → AddsEvent ks a event c
adds-after ks a b c event later stays adds = record {
  before = adds.before;
  later = later-trans a b adds.before later adds.later;
  stays = stays-trans ks a b adds.before stays adds.stays;
  last = adds.last;
}

abbrev pub adds-fewer : (j : ℕ) (ks : List ℕ) (a c : List Event) (event : Option Event) → AddsEvent (j ∷ ks) a event c → AddsEvent ks a event c
adds-fewer j ks a c event adds = record {
  before = adds.before;
  later = adds.later;
  stays = stays-fewer j ks a adds.before adds.stays;
  last = adds.last;
}

-- an event was added
pub adds-commits : (ks : List ℕ) (a c : List Event) (x : Event) → AddsEvent ks a (Some x) c → Commits ks a x c
adds-commits ks a c x adds = record { before = adds.before; later = adds.later; stays = adds.stays; last = adds.last }

pub commits-adds : (ks : List ℕ) (a c : List Event) (x : Event) → Commits ks a x c → AddsEvent ks a (Some x) c
commits-adds ks a c x it = record { before = it.before; later = it.later; stays = it.stays; last = it.last }

pub commits-after : (ks : List ℕ) (a b c : List Event) (x : Event) → IsLater a b → Stays ks a b → Commits ks b x c → Commits ks a x c
commits-after ks a b c x later stays it = record {
  before = it.before;
  later = later-trans a b it.before later it.later;
  stays = stays-trans ks a b it.before stays it.stays;
  last = it.last;
}

-- no event was added
abbrev pub none-added : (ks : List ℕ) (h : List Event) → AddsEvent ks h None h
none-added ks h = record { before = h; later = later-self h; stays = λ k one. refl; last = refl }
