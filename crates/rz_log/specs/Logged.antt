-- What contracts see of a log.
use Rattle.std.specs.Prelude.{ℕ, ◌+◌, ◌-◌, ◌^◌, min, ◌≤◌, List, refl}
use Rattle.std.specs.Coded.{Coded, code_by, coded×, coded_ℕ, coded_list}
use Rattle.rz_events.specs.declared.events.Event.{Event}
use Rattle.rz_events.specs.contracts.events.Event as event

-- The events, the newest first, and for how many more there is room.
pub record Logged : Type 0 where
  pub events : List Event
  pub room : ℕ

abbrev pub logged_code : Coded Logged
logged_code =
    code_by (List Event × ℕ) (coded× (coded_list event.the_row.coded) coded_ℕ) (λ l. (l.events, l.room)) (λ p. record { events = p.0; room = p.1 }) (λ _. refl)

-- A log is full where it has two events more than 2^62: one that has no more than that takes those of a turn more, which are two
-- at most.
abbrev pub IsLogCount : ℕ → Type 0
IsLogCount count = count ≤ 2 ^ 62 + 2

-- for how many events more a log with so many has room, where its memory has place for so many
abbrev pub room_for : ℕ → ℕ → ℕ
room_for capacity count = min capacity (2 ^ 62 + 2) - count
