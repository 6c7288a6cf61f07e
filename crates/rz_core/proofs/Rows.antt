-- Each row holds under more facts.
use Rattle.std.proofs.Common.{ℕ, Bool, inl, inr, List, [], ◌∷◌, Option, Some, None, sym, ◌∙◌, ap, subst}
use Rattle.std.specs.List.{AllByRecursion}
use Rattle.rz_events.specs.Volume.{Volume}
use Rattle.rz_events.specs.declared.keys.Key.{Key}
use Rattle.rz_events.specs.declared.keys.Actor.{Actor}
use Rattle.rz_events.specs.declared.files.Published.{Published}
use Rattle.rz_events.specs.declared.files.Listed.{Listed}
use Rattle.rz_events.specs.declared.records.Held.{Held}
use Rattle.rz_events.specs.declared.records.Change.{Change}
use Rattle.rz_events.specs.declared.records.Change.TheVariants as change
use Rattle.rz_events.specs.declared.ends.Seen.{Seen}
use Rattle.rz_events.specs.declared.ends.Why.{Why}
use Rattle.rz_events.specs.declared.ends.Why.TheVariants as why
use Rattle.rz_events.specs.declared.ends.ReadEnd.{ReadEnd}
use Rattle.rz_events.specs.declared.ends.ReadEnd.TheVariants as read
use Rattle.rz_events.specs.declared.ends.WriteEnd.{WriteEnd}
use Rattle.rz_events.specs.declared.ends.WriteEnd.TheVariants as write
use Rattle.rz_events.specs.declared.ends.LeftWhy.{LeftWhy}
use Rattle.rz_events.specs.declared.ends.LeftWhy.TheVariants as left
use Rattle.rz_events.specs.declared.events.Event.{Event}
use Rattle.rz_events.specs.declared.events.Event.TheVariants as e
use Rattle.rz_node_model.specs.Versions.{IsHeld}
use Rattle.rz_export_model.specs.Export.{Export}
use Rattle.rz_export_model.specs.Tree.{file_of}
use Rattle.rz_core.specs.History.{Facts, Begun, IsWriter}
use Rattle.rz_core.specs.NodeWord.{held}
use Rattle.rz_core.specs.Outcomes.{IsShort, IsEnough}
use Rattle.rz_core.specs.ExportRows.{names_reply, IsPublishing, IsPublishable, PublishRow, IsListed, NextRow}
use Rattle.rz_core.specs.NodeRows.{HasRoom, IsFull, HasCell, IsWriting, IsKeep, IsRefill, DidRow, PassedRow, RefusedRow, IsRecordTold}
use Rattle.rz_core.specs.OwnRows.{GotRow, GaveRow, IsShortCopy, IsRefilling, LeftRefusedRow, LeftRow}
use Rattle.rz_core.specs.Legal.{Row}
use Rattle.rz_core.proofs.Extends.{Extends, Knows, place-extends, place-back, live-placed, held-extends, held-known, past-back, past-extends, published-extends, export-extends}

writer-extends : (f g : Facts) → Extends f g → (by : Actor) (key : Key) (s : ℕ) → (b : Begun) × IsWriter f by key s b → (b : Begun) × IsWriter g by key s b
writer-extends f g ext by key s (b, i) = (b, record { found = ext.wrote s b i.found; by_is = i.by_is; key_is = i.key_is })

answer-extends : (f g : Facts) → Extends f g → (s : ℕ) (now : List ℕ) (answer : Option Held) → IsRecordTold f s now answer → IsRecordTold g s now answer
answer-extends f g ext s now None a = a
answer-extends f g ext s now (Some r) a =
    (a.0, (a.1.0, record { found = ext.wrote s a.1.0 a.1.1.found; stamp = a.1.1.stamp; length = a.1.1.length; base = a.1.1.base }))

-- the cells of a node
room-extends : (v : Volume) (f g : Facts) → Extends f g → (w : List Event) (n : ℕ) → AllByRecursion (Knows f) w → HasRoom v f w n → HasRoom v g w n
room-extends v f g ext w n k r =
    record { keys = r.keys; all = λ key there. r.all key (subst IsHeld (held-extends f g ext w key k) there); few = r.few }

cell-extends : (v : Volume) (f g : Facts) → Extends f g → (w : List Event) (n : ℕ) (key : Key) → AllByRecursion (Knows f) w → HasCell v f w n key → HasCell v g w n key
cell-extends v f g ext w n key k (inl there) = inl (subst IsHeld (sym (held-extends f g ext w key k)) there)
cell-extends v f g ext w n key k (inr r) = inr (room-extends v f g ext w n k r)

held_keys-extends : (f g : Facts) → Extends f g → (w : List Event) → AllByRecursion (Knows f) w → (keys : List Key)
    → AllByRecursion (λ key. IsHeld (held f w key)) keys → AllByRecursion (λ key. IsHeld (held g w key)) keys
held_keys-extends f g ext w k [] all = tt
held_keys-extends f g ext w k (key ∷ keys) all =
    (subst IsHeld (sym (held-extends f g ext w key k)) all.0, held_keys-extends f g ext w k keys all.1)

full-extends : (v : Volume) (f g : Facts) → Extends f g → (w : List Event) (n : ℕ) → AllByRecursion (Knows f) w → IsFull v f w n → IsFull v g w n
full-extends v f g ext w n k r =
    record { keys = r.keys; distinct = r.distinct; all = held_keys-extends f g ext w k r.keys r.all; many = r.many }

-- changes
writing-extends : (f g : Facts) → Extends f g → (by : Actor) (node : ℕ) (key : Key) (stamp position : ℕ) → IsWriting f by node key stamp position → IsWriting g by node key stamp position
writing-extends f g ext by node key stamp position r =
    record { writer = writer-extends f g ext by key stamp r.writer; place = place-extends f g ext _ _ _ r.place }

keep-extends : (f g : Facts) → Extends f g → (w : List Event) (by : Actor) (node : ℕ) (key : Key) (stamp position : ℕ) → IsKeep f w by node key stamp position → IsKeep g w by node key stamp position
keep-extends f g ext w by node key stamp position r =
    record { up = r.up; fenced = r.fenced; writing = writing-extends f g ext by node key stamp position r.writing }

refill-extends : (v : Volume) (f g : Facts) → Extends f g → (w o : List Event) (by : Actor) (node fence : ℕ) (key : Key) (stamp position : ℕ) → IsRefill v f w o by node fence key stamp position → IsRefill v g w o by node fence key stamp position
refill-extends v f g ext w o by node fence key stamp position r = record {
  up = r.up;
  fence_is = r.fence_is;
  rebuilding = record {
    replaced = r.rebuilding.replaced;
    next = r.rebuilding.next;
    enough = r.rebuilding.enough;
    place = place-extends f g ext _ _ _ r.rebuilding.place;
  };
}

pub did-extends : (v : Volume) (f g : Facts) → Extends f g → (w o : List Event) (by : Actor) (node : ℕ) (c : Change) → AllByRecursion (Knows f) w → DidRow v f w o by node c → DidRow v g w o by node c
did-extends v f g ext w o by node (change.Keep key stamp position) k r = record {
  keep = keep-extends f g ext w by node key stamp position r.keep;
  above = rw (held-extends f g ext w key k) r.above;
  cell = cell-extends v f g ext w node key k r.cell;
}
did-extends v f g ext w o by node (change.Refill fence key stamp position) k r = record {
  refill = refill-extends v f g ext w o by node fence key stamp position r.refill;
  absent = rw (held-extends f g ext w key k) r.absent;
  dated = rw (held-extends f g ext w key k) (λ p. r.dated (past-back f g ext stamp (held f w key) (held-known f w key k) p));
  cell = cell-extends v f g ext w node key k r.cell;
}
did-extends v f g ext w o by node (change.Drop key stamp) k r = record {
  up = r.up;
  least = λ at same less. held-extends f g ext w at k ∙ r.least at same less;
  lesser = rw (held-extends f g ext w key k) r.lesser;
  gone = r.gone;
}

passed-extends : (v : Volume) (f g : Facts) → Extends f g → (w o : List Event) (by : Actor) (node : ℕ) (key : Key) (stamp now : ℕ) → AllByRecursion (Knows f) w → PassedRow v f w o by node key stamp now → PassedRow v g w o by node key stamp now
passed-extends v f g ext w o by node key stamp now k (inl r) = inl (record {
  keep = (r.keep.0, keep-extends f g ext w by node key stamp r.keep.0 r.keep.1);
  now_is = rw (held-extends f g ext w key k) r.now_is;
  above = r.above;
})
passed-extends v f g ext w o by node key stamp now k (inr r) = inr (record {
  refill = (r.refill.0, refill-extends v f g ext w o by node _ key stamp r.refill.0 r.refill.1);
  now_is = rw (held-extends f g ext w key k) r.now_is;
  past = rw (held-extends f g ext w key k) (elim r.past [ inl here ↦ inl here | inr past ↦ inr (past-extends f g ext stamp (held f w key) (held-known f w key k) past) ]);
})

refused-extends : (v : Volume) (f g : Facts) → Extends f g → (w : List Event) (n : ℕ) (cause : Why) (told : ℕ) → AllByRecursion (Knows f) w → RefusedRow v f w n cause told → RefusedRow v g w n cause told
refused-extends v f g ext w n why.Full told k r = (r.0, full-extends v f g ext w n k r.1, r.2)
refused-extends v f g ext w n _ told k r = r

-- publishes
publishing-extends : (v : Volume) (f g : Facts) → Extends f g → (o : List Event) (by : Actor) (key : Key) (stamp mask : ℕ) → IsPublishing v f o by key stamp mask → IsPublishing v g o by key stamp mask
publishing-extends v f g ext o by key stamp mask r = record {
  writer = writer-extends f g ext by key stamp r.writer;
  quorum = r.quorum;
  kept = λ p set. let h = r.kept p set in (h.0, place-extends f g ext _ _ _ h.1, h.2);
}

publishable-extends : (v : Volume) (f g : Facts) → Extends f g → (w o : List Event) (by : Actor) (key : Key) (stamp mask : ℕ) → IsPublishable v f w o by key stamp mask → IsPublishable v g w o by key stamp mask
publishable-extends v f g ext w o by key stamp mask r =
    record { live = r.live; newest = r.newest; publishing = publishing-extends v f g ext o by key stamp mask r.publishing }

publish-extends : (v : Volume) (f g : Facts) → Extends f g → (w o : List Event) (by : Actor) (key : Key) (stamp mask : ℕ) (refused : Option (ℕ × ℕ)) → AllByRecursion (Knows f) w → PublishRow v f w o by key stamp mask refused → PublishRow v g w o by key stamp mask refused
publish-extends v f g ext w o by key stamp mask None k r = record {
  publishable = publishable-extends v f g ext w o by key stamp mask r.publishable;
  free = λ p n set place. r.free p n set (place-back f g ext _ _ _ (live-placed f w key.fid k r.publishable.live) place);
}
publish-extends v f g ext w o by key stamp mask (Some refused) k r = record {
  publishable = publishable-extends v f g ext w o by key stamp mask r.publishable;
  named = r.named;
  barred = (r.barred.0, place-extends f g ext _ _ _ r.barred.1, r.barred.2);
  above = r.above;
  least = λ p n less set place. r.least p n less set (place-back f g ext _ _ _ (live-placed f w key.fid k r.publishable.live) place);
}

-- what is listed
listed-extends : (f g : Facts) → Extends f g → (w : List Event) (n : ℕ) (key : Key) (p : Published) → AllByRecursion (Knows f) w → IsListed f w n key p → IsListed g w n key p
listed-extends f g ext w n key p k l = record {
  live = l.live;
  told = l.told ∙ sym (published-extends f g ext w key k);
  named = (l.named.0, l.named.1, place-extends f g ext _ _ _ l.named.2);
}

listed-back : (f g : Facts) → Extends f g → (w : List Event) (n : ℕ) (key : Key) (p : Published) → AllByRecursion (Knows f) w → IsListed g w n key p → IsListed f w n key p
listed-back f g ext w n key p k l = record {
  live = l.live;
  told = l.told ∙ published-extends f g ext w key k;
  named = (l.named.0, l.named.1, place-back f g ext _ _ _ (live-placed f w key.fid k l.live) l.named.2);
}

next-extends : (v : Volume) (f g : Facts) → Extends f g → (w : List Event) (n : ℕ) (after : Option Key) (answer : Option Listed) → AllByRecursion (Knows f) w → NextRow v f w n after answer → NextRow v g w n after answer
next-extends v f g ext w n after None k r = λ key p a l. r key p a (listed-back f g ext w n key p k l)
next-extends v f g ext w n after (Some l) k r = record {
  listed = listed-extends f g ext w n l.key l.published k r.listed;
  later = r.later;
  least = λ key p a b l. r.least key p a b (listed-back f g ext w n key p k l);
  file = ap (λ (s : Export). file_of s.tree l.key.fid) (export-extends v f g ext w k) ∙ r.file;
}

-- ends
short-extends : (v : Volume) (f g : Facts) → Extends f g → (start : Event → Bool) (o : List Event) (key : Key) (s : ℕ) (told : List Seen) → IsShort v f start o key s told → IsShort v g start o key s told
short-extends v f g ext start o key s told r = record {
  places = r.places;
  placed = ext.places key.fid r.places r.placed;
  asked = r.asked;
  told_is = r.told_is;
  few = r.few;
  ended = r.ended;
}

enough-extends : (v : Volume) (f g : Facts) → Extends f g → (start : Event → Bool) (o : List Event) (key : Key) (s : ℕ) → IsEnough v f start o key s → IsEnough v g start o key s
enough-extends v f g ext start o key s r = record { places = r.places; placed = ext.places key.fid r.places r.placed; many = r.many }

pub got-extends : (v : Volume) (f g : Facts) → Extends f g → (o : List Event) (by : Actor) (key : Key) (end : ReadEnd) → GotRow v f o by key end → GotRow v g o by key end
got-extends v f g ext o by key (read.Found stamp text) r =
    record { looked = r.looked; enough = r.enough; wrote = (r.wrote.0, ext.wrote _ _ r.wrote.1, r.wrote.2) }
got-extends v f g ext o by key (read.TooFew seen) r = record {
  published = r.published;
  looked = r.looked;
  short = short-extends v f g ext _ o key _ seen r.short;
  now = r.now;
  again = r.again;
  same = r.same;
}
got-extends v f g ext o by key (read.Moved was now) r =
    record { looked = r.looked; short = (r.short.0, short-extends v f g ext _ o key was r.short.0 r.short.1); again = r.again; moved = r.moved }
got-extends v f g ext o by key read.Hole r = r
got-extends v f g ext o by key read.Inconsistent r = absurd r
got-extends v f g ext o by key (read.Denied cause) r = r

pub gave-extends : (v : Volume) (f g : Facts) → Extends f g → (o : List Event) (by : Actor) (key : Key) (end : WriteEnd) → GaveRow v f o by key end → GaveRow v g o by key end
gave-extends v f g ext o by key (write.Acked stamp mask) r = r
gave-extends v f g ext o by key (write.TooFew causes) r = record {
  stamp = r.stamp;
  base = r.base;
  text = r.text;
  begun = r.begun;
  places = r.places;
  placed = ext.places key.fid r.places r.placed;
  causes_are = r.causes_are;
  many = r.many;
}
gave-extends v f g ext o by key (write.Denied cause) r = r
gave-extends v f g ext o by key (write.Revoked later) r = r

copy-extends : (v : Volume) (f g : Facts) → Extends f g → (o : List Event) (by : Actor) (key : Key) → IsShortCopy v f o by key → IsShortCopy v g o by key
copy-extends v f g ext o by key r =
    record { node = r.node; told = r.told; listed = r.listed; seen = r.seen; short = short-extends v f g ext _ o key _ r.seen r.short }

refilling-extends : (v : Volume) (f g : Facts) → Extends f g → (o : List Event) (by : Actor) (node : ℕ) (key : Key) (l : Listed) → IsRefilling v f o by node key l → IsRefilling v g o by node key l
refilling-extends v f g ext o by node key l r = record { listed = r.listed; enough = enough-extends v f g ext _ o key _ r.enough }

left_refused-extends : (v : Volume) (f g : Facts) → Extends f g → (o : List Event) (by : Actor) (key : Key) (cause : Why) → LeftRefusedRow v f o by key cause → LeftRefusedRow v g o by key cause
left_refused-extends v f g ext o by key cause r =
    record { node = r.node; told = r.told; refused = r.refused; refilling = refilling-extends v f g ext _ by r.node key r.told r.refilling }

left-extends : (v : Volume) (f g : Facts) → Extends f g → (o : List Event) (by : Actor) (key : Key) (cause : LeftWhy) → LeftRow v f o by key cause → LeftRow v g o by key cause
unfolding copy-extends
left-extends v f g ext o by key left.TooFew r =
    record { copy = copy-extends v f g ext o by key r.copy; now = r.now; again = r.again; same = r.same }
left-extends v f g ext o by key (left.Denied cause) r =
    record { copy = copy-extends v f g ext o by key r.copy; denied = r.denied }
left-extends v f g ext o by key left.Missed r =
    record { node = r.node; told = r.told; lost = r.lost; missed = r.missed; refilling = refilling-extends v f g ext _ by r.node key r.told r.refilling }
left-extends v f g ext o by key left.Down r = left_refused-extends v f g ext o by key why.Down r
left-extends v f g ext o by key left.Full r = left_refused-extends v f g ext o by key why.Full r
left-extends v f g ext o by key left.DiskFault r = record {
  node = r.node;
  told = r.told;
  fence = r.fence;
  position = r.position;
  broke = r.broke;
  refilling = refilling-extends v f g ext _ by r.node key r.told r.refilling;
}
left-extends v f g ext o by key left.Inconsistent r = absurd r

-- any row
pub row-extends : (v : Volume) (f g : Facts) → Extends f g → (w o run : List Event) (x : Event) → AllByRecursion (Knows f) w → Row v f w o run x → Row v g w o run x
row-extends v f g ext w o run (e.Meta by call reply) k r =
    record { told = r.told ∙ ap (λ (s : Export). names_reply s call) (sym (export-extends v f g ext w k)) }
row-extends v f g ext w o run (e.Begin by key stamp base text) k r =
    record { live = r.live; block = r.block; short = r.short; next = r.next; from = r.from }
row-extends v f g ext w o run (e.Publish by key stamp mask refused) k r = publish-extends v f g ext w o by key stamp mask refused k r
row-extends v f g ext w o run (e.Revoked by key stamp later) k r =
    record { live = r.live; writer = writer-extends f g ext by key stamp r.writer; later_is = r.later_is; above = r.above }
row-extends v f g ext w o run (e.Look by key answer) k r =
    record { live = r.live; block = r.block; told = r.told ∙ sym (published-extends f g ext w key k) }
row-extends v f g ext w o run (e.Recheck by key answer) k r =
    record { live = r.live; looked = r.looked; told = r.told ∙ sym (published-extends f g ext w key k) }
row-extends v f g ext w o run (e.Next by node after answer) k r = next-extends v f g ext w node after answer k r
row-extends v f g ext w o run (e.Did by node c) k r = did-extends v f g ext w o by node c k r
row-extends v f g ext w o run (e.Passed by node key stamp now) k r = passed-extends v f g ext w o by node key stamp now k r
row-extends v f g ext w o run (e.Refused by node cause told) k r = refused-extends v f g ext w node cause told k r
row-extends v f g ext w o run (e.Fetch by node key position stamp answer) k r =
    record {
      up = r.up;
      place = place-extends f g ext _ _ _ r.place;
      told = rw (held-extends f g ext w key k) (answer-extends f g ext stamp _ answer r.told);
    }
row-extends v f g ext w o run (e.Void by node fid) k r =
    record { up = r.up; none = λ key same. held-extends f g ext w key k ∙ r.none key same }
row-extends v f g ext w o run (e.Broke by node None) k r = r
row-extends v f g ext w o run (e.Broke by node (Some c)) k r = did-extends v f g ext w o by node c k r
row-extends v f g ext w o run (e.Left by key cause) k r = left-extends v f g ext o by key cause r
row-extends v f g ext w o run (e.Got by number key part end) k r = (got-extends v f g ext o by key end r.0, r.1)
row-extends v f g ext w o run (e.Gave by number key part end) k r = (gave-extends v f g ext o by key end r.0, r.1)
row-extends v f g ext w o run _ k r = r
