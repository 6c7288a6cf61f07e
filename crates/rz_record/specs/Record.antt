-- The bytes of a record.
use Rattle.std.specs.Prelude.{◌≡◌, ◌≢◌, ℕ, ◌+◌, ◌*◌, ◌<◌, ◌≤◌, Option, Some, None, List, length, take, slice_index}
use Rattle.mj_angles.specs.declared.layout.Layout.{Layout}
use Rattle.mj_angles.specs.Layout.{number_of, bsize_of, safe_of, block_bytes_of, bins_at_of, max_bins_of}
use Rattle.rz_events.specs.declared.records.Head.{Head}
use Rattle.rz_record.specs.Fields.{number_at}

-- a head that a record may have
pub record IsValid (h : Head) : Type 0 where
  pub some : h.stamp ≢ 0
  pub bsize : h.bsize ≡ bsize_of h.layout
  pub position : h.position < safe_of h.layout
  pub fits : h.length ≤ block_bytes_of h.layout
  pub older : h.base < h.stamp

-- the bins of its record
unfoldable pub bins_of : Head → ℕ
bins_of h = bins_at_of h.layout h.position

-- the bytes of its record
abbrev pub record_bytes : Head → ℕ
record_bytes h = 48 + 8 * bins_of h

-- room for any record of a layout
unfoldable pub slot_bytes : Layout → ℕ
slot_bytes y = 48 + 8 * max_bins_of y

-- the bytes begin with this head
pub record IsHead (bytes : List ℕ) (h : Head) : Type 0 where
  pub room : 48 ≤ length bytes
  pub valid : IsValid h
  pub stamp : h.stamp ≡ number_at 0 8 bytes
  pub fid : h.key.fid ≡ number_at 8 16 bytes
  pub block : h.key.block ≡ number_at 24 8 bytes
  pub layout : number_of h.layout ≡ slice_index bytes 32
  pub bsize : h.bsize ≡ slice_index bytes 33
  pub position : h.position ≡ slice_index bytes 34
  pub reserved : slice_index bytes 35 ≡ 0
  pub text_length : h.length ≡ number_at 36 4 bytes
  pub base : h.base ≡ number_at 40 8 bytes

-- these bins stand behind a head
pub record HasBins (bytes bins : List ℕ) : Type 0 where
  pub room : 48 + 8 * length bins ≤ length bytes
  pub each : (k : ℕ) → k < length bins → slice_index bins k ≡ number_at (48 + 8 * k) 8 bytes

-- the bytes begin with the record of this head and these bins
pub record IsRecord (bytes : List ℕ) (h : Head) (bins : List ℕ) : Type 0 where
  pub head : IsHead bytes h
  pub count : length bins ≡ bins_of h
  pub behind : HasBins bytes bins

-- the bytes begin with a zero stamp
abbrev pub IsEmpty : List ℕ → Type 0
IsEmpty bytes = number_at 0 8 bytes ≡ 0
