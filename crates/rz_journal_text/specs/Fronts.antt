-- What stands at the front of bytes, field by field: a value, and the bytes behind it.
use Rattle.std.specs.Prelude.{◌≡◌, ℕ, zero, suc, nat_lt, nat_le, ◌==◌, if◌then◌else◌, List, [], ◌∷◌, ◌++◌, length, take, drop, Option, Some, None, Result, Ok, Err, ⊤}
use Rattle.std.specs.Borrow.{Bor}
use Rattle.byteorder.specs.Endian.{little_number}
use Rattle.rz_events.specs.declared.keys.Key.{Key}
use Rattle.rz_events.specs.declared.files.Kind.{Kind}
use Rattle.rz_events.specs.declared.files.Kind.TheVariants.{File, Dir, Link as LinkKind}
use Rattle.rz_events.specs.declared.files.Published.{Published}
use Rattle.rz_events.specs.declared.tree.TreeCall.{TreeCall}
use Rattle.rz_events.specs.declared.tree.TreeCall.TheVariants.{Lookup, Getattr, Rmdir, Mkdir, Create, Unlink, Readlink, Readdir, OpenFile, Setattr, Rename, Link, Symlink}
use Rattle.rz_export_model.specs.Paths.{Path, long_path_of}
use Rattle.rz_tree.specs.declared.parts.Part.{Part}
use Rattle.rz_tree.specs.declared.parts.Part.TheVariants.{Counters, Object, Name, Block, Enrolled}
use Rattle.rz_journal_text.specs.declared.entry.JournalEntry.{JournalEntry}
use Rattle.rz_journal_text.specs.declared.entry.JournalEntry.TheVariants.{Tree, Begin, Publish, Enroll, Built}
use Rattle.rz_journal_text.specs.declared.fault.EntryFault.{EntryFault}
use Rattle.rz_journal_text.specs.declared.fault.EntryFault.TheVariants.{NoMemory, BadEntry}

abbrev pub Front : Type 0 → Type 0
Front A = List ℕ → Option (A × List ℕ)

abbrev pub and_then : {A B : Type 0} → Option (A × List ℕ) → (A → Front B) → Option (B × List ℕ)
and_then None next = None
and_then (Some found) next = next found.0 found.1

-- one field, and then the next ones
infixl 10 ◌>>=◌
abbrev pub ◌>>=◌ : {A B : Type 0} → Front A → (A → Front B) → Front B
(front >>= next) bytes = and_then (front bytes) next

abbrev pub done : {A : Type 0} → A → Front A
done x bytes = Some (x, bytes)

-- a value that may be missing
abbrev pub given : {A : Type 0} → Option A → Front A
given None bytes = None
given (Some x) bytes = Some (x, bytes)

abbrev pub nothing : {A : Type 0} → Front A
nothing bytes = None

-- ---- fields

-- so many bytes
unfoldable pub first : ℕ → Front (List ℕ)
first n bytes = if nat_le n (length bytes) then Some (take n bytes, drop n bytes) else None

unfoldable pub byte : Front ℕ
byte [] = None
byte (b ∷ rest) = Some (b, rest)

-- a number of n bytes
unfoldable pub number : ℕ → Front ℕ
number n = do
  bytes ← first n
  done (little_number n bytes)

unfoldable pub text : Front (List ℕ)
text = do
  n ← number 2
  first n

unfoldable pub path : Front Path
path = do
  n ← number 4
  text ← first n
  given (long_path_of text)

unfoldable pub key : Front Key
key = do
  fid ← number 16
  block ← number 8
  done (record { fid = fid; block = block })

-- the kind of objects with a number
abbrev pub numbered_kind : ℕ → Option Kind
numbered_kind n = if n == 0 then Some File else if n == 1 then Some Dir else if n == 2 then Some LinkKind else None

unfoldable pub kind : Front Kind
kind = do
  n ← byte
  given (numbered_kind n)

-- so many more nodes, behind those that were read
unfoldable pub nodes : List ℕ → ℕ → Front (List ℕ)
nodes before zero = done before
nodes before (suc n) = do
  node ← number 2
  nodes (before ++ node ∷ []) n

-- at most 16 nodes behind their count
unfoldable pub places : Front (List ℕ)
places = do
  n ← byte
  if nat_le n 16 then nodes [] n else nothing

unfoldable pub published : Front Published
published = do
  stamp ← number 8
  mask ← number 2
  bytes ← number 4
  done (record { stamp = stamp; mask = mask; length = bytes })

abbrev pub some_published : Front (Option Published)
some_published = do
  p ← published
  done (Some p)

unfoldable pub maybe_published : Front (Option Published)
maybe_published = do
  n ← byte
  if n == 0 then done None else if n == 1 then some_published else nothing

-- ---- calls on names

-- the call on one path with a number
abbrev pub path_call : ℕ → List ℕ → Option TreeCall
path_call n path =
    if n == 0 then Some (Lookup path)
    else if n == 1 then Some (Getattr path)
    else if n == 2 then Some (Rmdir path)
    else if n == 3 then Some (Mkdir path)
    else if n == 4 then Some (Create path)
    else if n == 5 then Some (Unlink path)
    else if n == 6 then Some (Readlink path)
    else if n == 7 then Some (Readdir path)
    else if n == 8 then Some (OpenFile path)
    else None

-- the call on two texts with a number
abbrev pub pair_call : ℕ → List ℕ → List ℕ → Option TreeCall
pair_call n one two =
    if n == 10 then Some (Rename one two)
    else if n == 11 then Some (Link one two)
    else if n == 12 then Some (Symlink one two)
    else None

unfoldable pub on_path : ℕ → Front TreeCall
on_path n = do
  path ← text
  given (path_call n path)

unfoldable pub on_pair : ℕ → Front TreeCall
on_pair n = do
  one ← text
  two ← text
  given (pair_call n one two)

unfoldable pub setattr : Front TreeCall
setattr = do
  path ← text
  mode ← number 2
  mtime ← number 8
  done (Setattr path mode mtime)

-- the call with a number among the calls on names
unfoldable pub call_numbered : ℕ → Front TreeCall
call_numbered n = if nat_lt n 9 then on_path n else if n == 9 then setattr else on_pair n

-- ---- parts

unfoldable pub counters : Front Part
counters = do
  last ← number 8
  made ← number 16
  done (Counters last made)

unfoldable pub object : Front Part
object = do
  fid ← number 16
  kind ← kind
  mode ← number 2
  mtime ← number 8
  size ← number 8
  cid ← number 2
  places ← places
  target ← text
  done (Object fid kind mode mtime size cid places target)

unfoldable pub name : Front Part
name = do
  path ← path
  fid ← number 16
  done (Name path fid)

unfoldable pub block : Front Part
block = do
  key ← key
  latest ← number 8
  published ← maybe_published
  done (Block key latest published)

unfoldable pub enrolled : Front Part
enrolled = do
  node ← number 2
  loss ← number 8
  fence ← number 8
  done (Enrolled node loss fence)

-- the part of an entry with a kind
unfoldable pub part_of_kind : ℕ → Front Part
part_of_kind n =
    if n == 5 then counters
    else if n == 6 then object
    else if n == 7 then name
    else if n == 8 then block
    else if n == 9 then enrolled
    else nothing

-- ---- entries

unfoldable pub tree : Front JournalEntry
tree = do
  n ← byte
  call ← call_numbered n
  done (Tree call)

unfoldable pub begin : Front JournalEntry
begin = do
  key ← key
  bytes ← number 4
  done (Begin key bytes)

unfoldable pub publish : Front JournalEntry
publish = do
  key ← key
  stamp ← number 8
  mask ← number 2
  bytes ← number 4
  done (Publish key stamp mask bytes)

unfoldable pub enroll : Front JournalEntry
enroll = do
  node ← number 2
  loss ← number 8
  done (Enroll node loss)

unfoldable pub built : ℕ → Front JournalEntry
built n = do
  part ← part_of_kind n
  done (Built part)

-- the fields of an entry of a kind
unfoldable pub fields : ℕ → Front JournalEntry
fields n =
    if n == 1 then tree
    else if n == 2 then begin
    else if n == 3 then publish
    else if n == 4 then enroll
    else built n

unfoldable pub entry : Front JournalEntry
entry = do
  n ← byte
  fields n

-- nothing stands behind it
abbrev pub ended : {A : Type 0} → A → Front A
ended x [] = Some (x, [])
ended x (b ∷ rest) = None

unfoldable pub whole : Front JournalEntry
whole = do
  e ← entry
  ended e

-- ---- what reading answers

-- the value at the front, with the bytes behind it; or that there is none; memory may be wanting
abbrev pub Gives : {A : Type 0} → Result A EntryFault → List ℕ → Option (A × List ℕ) → Type 0
Gives (Ok x) rest found = found ≡ Some (x, rest)
Gives (Err BadEntry) rest found = found ≡ None
Gives (Err NoMemory) rest found = ⊤

-- the same of bytes that are lent
abbrev pub GivesBytes : Result (Bor (List ℕ)) EntryFault → List ℕ → Option (List ℕ × List ℕ) → Type 0
GivesBytes (Ok bytes) rest found = found ≡ Some (bytes.now, rest)
GivesBytes (Err BadEntry) rest found = found ≡ None
GivesBytes (Err NoMemory) rest found = ⊥

-- this entry, unless memory is wanting
abbrev pub IsThis : JournalEntry → Result JournalEntry EntryFault → Type 0
IsThis this (Ok found) = found ≡ this
IsThis this (Err BadEntry) = ⊥
IsThis this (Err NoMemory) = ⊤
