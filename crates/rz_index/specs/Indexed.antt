-- What contracts see of an index, and how it is kept.
use Rattle.std.specs.Prelude.{ℕ, ◌==◌, T, cond, List, [], ◌∷◌, ◌++◌, map, Option, Some, None, refl}
use Rattle.std.specs.Option.{option_map}
use Rattle.std.specs.Coded.{Coded, code_by, coded×, coded_ℕ, coded_list}
use Rattle.std.specs.List as lists
use Rattle.std.specs.FinMap as maps
use Rattle.std.specs.FinMap.Entries.{is_sorted}
use Rattle.rz_events.specs.Keys.{key_cmp, coded_key}
use Rattle.rz_events.specs.declared.keys.Key.{Key}
use Rattle.rz_index.specs.declared.index.Entry.{Entry}
use Rattle.rz_index.specs.contracts.index.Entry as shown

-- from each key that is held to its entry; and the free cells, in the order in which they are given out
pub record Indexed : Type 0 where
  pub entries : maps.FinMap key_cmp Entry
  pub free : List ℕ

abbrev pub indexed_code : Coded Indexed
indexed_code =
    code_by (maps.FinMap key_cmp Entry × List ℕ) (coded× (maps.code coded_key shown.the_row.coded) (coded_list coded_ℕ))
    (λ s. (s.entries, s.free)) (λ p. record { entries = p.0; free = p.1 }) (λ _. refl)

-- entries, each under its key
abbrev pub pairs_of : List Entry → List (Key × Entry)
pairs_of es = map (λ (e : Entry). (e.key, e)) es

abbrev pub indexed : List Entry → List ℕ → Indexed
indexed es free = record { entries = maps.from_sorted (pairs_of es); free = free }

-- the keys rise
abbrev pub IsSorted : List Entry → Type 0
IsSorted es = T (is_sorted key_cmp (pairs_of es))

-- the entry of the least block of a file
abbrev pub first_of_file : maps.FinMap key_cmp Entry → ℕ → Option Entry
first_of_file entries fid = option_map (λ p. p.1) (lists.find (λ p. p.0.fid == fid) (maps.entries entries))

abbrev pub head_of : List ℕ → Option ℕ
head_of [] = None
head_of (cell ∷ cells) = Some cell

-- the cells without the first that is this one
abbrev pub erase : ℕ → List ℕ → List ℕ
erase cell [] = []
erase cell (c ∷ cells) = cond (c == cell) cells (c ∷ erase cell cells)

-- the free cells after an entry was set: a new key takes its cell
abbrev pub taken_in : Option Entry → ℕ → List ℕ → List ℕ
taken_in None cell free = erase cell free
taken_in (Some there) cell free = free

abbrev pub taken_out : Indexed → Entry → List ℕ
taken_out i entry = taken_in (maps.get i.entries entry.key) entry.cell i.free

-- the free cells after a key was taken away: its cell comes last
abbrev pub freed_by : Option Entry → List ℕ → List ℕ
freed_by None free = free
freed_by (Some gone) free = free ++ gone.cell ∷ []

abbrev pub freed : Indexed → Key → List ℕ
freed i key = freed_by (maps.get i.entries key) i.free
