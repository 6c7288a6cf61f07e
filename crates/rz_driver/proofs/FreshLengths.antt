-- An operation that goes on to another block, or to its end, looks for no text yet.
use Rattle.std.proofs.Common.{ℕ, Bool, true, false, cond, ◌==◌, List, [], ◌∷◌, length, Option, Some, None}
use Rattle.std.specs.Prelude.{min, ◌-◌, ◌++◌}
use Rattle.mj_angles.specs.declared.layout.Layout.{Layout}
use Rattle.rz_events.specs.declared.files.FileInfo.{FileInfo}
use Rattle.rz_events.specs.declared.ends.ReadMark.{ReadMark}
use Rattle.rz_events.specs.declared.ends.ReadMark.TheVariants as mark
use Rattle.rz_events.specs.declared.ends.WriteEnd.{WriteEnd}
use Rattle.rz_events.specs.declared.ends.WriteEnd.TheVariants as write
use Rattle.rz_events.specs.declared.export.Reply.TheVariants as reply
use Rattle.rz_events.specs.declared.tree.TreeCall.{TreeCall}
use Rattle.rz_events.specs.declared.tree.TreeReply.{TreeReply}
use Rattle.rz_events.specs.declared.tree.TreeReply.TheVariants as tree
use Rattle.rz_events.specs.declared.nodes.NodeAnswer.TheVariants as answer
use Rattle.rz_events.specs.declared.nodes.DropAnswer.{DropAnswer}
use Rattle.rz_events.specs.declared.nodes.DropAnswer.TheVariants as drop
use Rattle.rz_events.specs.declared.machines.FileEnd.TheVariants as file
use Rattle.rz_events.specs.declared.events.Answer.{Answer}
use Rattle.rz_client_model.specs.declared.writing.WriterState.{WriterState}
use Rattle.rz_client_model.specs.Write.{writer_end}
use Rattle.rz_operation_model.specs.Ranges.{Aim, Taking, Giving, RangeState, is_whole, passed, cut, start_in, count_in}
use Rattle.rz_operation_model.specs.Files.{next_block, go_on, with_text, after_part, after_block}
use Rattle.rz_operation_model.specs.Files as files
use Rattle.rz_operation_model.specs.Work.{PutBlock, GetBlock, Plan, OnBlock, OnRange, RangePlan, WriteBytes, ReadBytes, Course, Alone, Within, Calling, Dropping, Opening, Locking, Writing, Rebuilding, Ending}
use Rattle.rz_operation_model.specs.Rebuild.{Rebuild, RebuildState, Going}
use Rattle.rz_operation_model.specs.Rebuild as rebuild
use Rattle.rz_operation_model.specs.Steps.{Told, Replied, Locked, Answered, Missed, Noted, told, in_range, in_rebuild, planned, after_open, after_lock, after_call, drop_at, after_drop, after_got, after_gave, said_writing, rebuild_after}
use Rattle.rz_core.specs.History.{Facts}
use Rattle.rz_driver.specs.Coherence.{KnowsLengths}

module _ (f : Facts) where
  -- ---- ranges

  next-block : (z : Layout) (r : RangeState) (aim : Aim) → KnowsLengths f (in_range (next_block z r aim))
  next-block z r (Taking bytes) = tt
  next-block z r (Giving bytes) = go (is_whole z r)
    where
      go : (b : Bool) → KnowsLengths f (in_range (cond b (files.writes_block z r (cut r.done (count_in z r) bytes)) (files.reads_block z r)))
      go true = tt
      go false = tt

  on : (z : Layout) (r : RangeState) → KnowsLengths f (in_range (go_on z r))
  on z r = go (r.done == r.size)
    where
      go : (b : Bool) → KnowsLengths f (in_range (cond b (files.Ended r (file.Whole r.done)) (next_block z r r.aim)))
      go true = tt
      go false = next-block z r r.aim

  text : (z : Layout) (r : RangeState) (found : List ℕ) (aim : Aim) → KnowsLengths f (in_range (with_text z r found aim))
  text z r found (Taking bytes) = on z (passed z r (Taking (bytes ++ cut (start_in z r) (count_in z r) found)))
  text z r found (Giving bytes) = tt

  part : (z : Layout) (r : RangeState) (found : List ℕ) (m : ReadMark) → KnowsLengths f (in_range (after_part z r found m))
  part z r found (mark.Found stamp size) = text z r found r.aim
  part z r found mark.Hole = text z r [] r.aim
  part z r found _ = tt

  block : (z : Layout) (r : RangeState) (e : WriteEnd) → KnowsLengths f (in_range (after_block z r e))
  block z r (write.Acked stamp mask) = on z (passed z r r.aim)
  block z r _ = tt

  -- ---- the file is open

  plan-made : (z : Layout) (info : FileInfo) (plan : Plan) → KnowsLengths f (planned z info plan)
  plan-made z info (OnBlock (PutBlock b bytes)) = tt
  plan-made z info (OnBlock (GetBlock b)) = tt
  plan-made z info (OnRange (WriteBytes offset bytes)) = on z (record { info = info; offset = offset; size = length bytes; done = 0; aim = Giving bytes })
  plan-made z info (OnRange (ReadBytes offset count)) = on z (record { info = info; offset = offset; size = min count (info.size - offset); done = 0; aim = Taking [] })

  opened : (z : Layout) (plan : Plan) (r : TreeReply) → KnowsLengths f (after_open z plan r)
  opened z plan (tree.File info) = plan-made z info plan
  opened z plan (tree.Refused fault) = tt
  opened z plan _ = tt

  locked : (z : Layout) (path : List ℕ) (plan : RangePlan) (granted : Bool) (r : TreeReply) → KnowsLengths f (after_lock z path plan granted r)
  locked z path plan true r = opened z (OnRange plan) r
  locked z path plan false (tree.File info) = tt
  locked z path plan false (tree.Refused fault) = tt
  locked z path plan false _ = tt

  -- ---- calls on names

  dropped-at : (fid : ℕ) (places : List ℕ) → KnowsLengths f (drop_at fid places)
  dropped-at fid [] = tt
  dropped-at fid (n ∷ places) = tt

  called : (r : TreeReply) → KnowsLengths f (after_call r)
  called (tree.Gone None) = tt
  called (tree.Gone (Some info)) = dropped-at info.fid info.places
  called _ = tt

  dropped : (fid n : ℕ) (places : List ℕ) (a : DropAnswer) → KnowsLengths f (after_drop fid n places a)
  dropped fid n places (drop.Dropped b stamp true) = tt
  dropped fid n places (drop.Dropped b stamp false) = dropped-at fid places
  dropped fid n places _ = dropped-at fid places

  -- ---- the end of a block

  pub got : (z : Layout) (course : Course) (found : List ℕ) (m : ReadMark) → KnowsLengths f (after_got z course found m)
  got z Alone found m = tt
  got z (Within r) found m = part z r found m

  gave : (z : Layout) (course : Course) (e : WriteEnd) → KnowsLengths f (after_gave z course e)
  gave z Alone e = tt
  gave z (Within r) e = block z r e

  said : (z : Layout) (course : Course) (bytes : List ℕ) (s : WriterState) (e : Option WriteEnd) → KnowsLengths f (said_writing z course bytes s e)
  said z course bytes s None = tt
  said z course bytes s (Some e) = gave z course e

  -- ---- works that look for no text

  pub calling : (z : Layout) (c : TreeCall) (t : Told) → KnowsLengths f (told z (Calling c) t)
  calling z c (Replied (reply.Tree r)) = called r
  calling z c _ = tt

  pub dropping : (z : Layout) (fid n : ℕ) (places : List ℕ) (t : Told) → KnowsLengths f (told z (Dropping fid n places) t)
  dropping z fid n places (Answered fits (answer.Drop a)) = dropped fid n places a
  dropping z fid n places Missed = dropped-at fid places
  dropping z fid n places _ = tt

  pub opening : (z : Layout) (path : List ℕ) (plan : Plan) (t : Told) → KnowsLengths f (told z (Opening path plan) t)
  opening z path plan (Replied (reply.Tree r)) = opened z plan r
  opening z path plan _ = tt

  pub locking : (z : Layout) (path : List ℕ) (plan : RangePlan) (t : Told) → KnowsLengths f (told z (Locking path plan) t)
  locking z path plan (Locked granted (reply.Tree r)) = locked z path plan granted r
  locking z path plan _ = tt

  pub writing : (z : Layout) (course : Course) (bytes : List ℕ) (s : WriterState) (t : Told) → KnowsLengths f (told z (Writing course bytes s) t)
  writing z course bytes s (Noted found) = said z course bytes s (writer_end s)
  writing z course bytes s _ = tt

  rebuilt : (n : ℕ) (r : Rebuild) → KnowsLengths f (in_rebuild n r)
  rebuilt n (Going s) = tt
  rebuilt n (rebuild.Ended e) = tt

  pub rebuilding : (z : Layout) (n : ℕ) (s : RebuildState) (t : Told) → KnowsLengths f (told z (Rebuilding n s) t)
  rebuilding z n s t = rebuilt n (rebuild_after z s t)

  pub ending : (z : Layout) (a : Answer) (t : Told) → KnowsLengths f (told z (Ending a) t)
  ending z a (Noted found) = tt
  ending z a _ = tt
