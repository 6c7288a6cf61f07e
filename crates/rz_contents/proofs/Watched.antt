-- What a put and a get make of the store, wherever they stand.
use Rattle.std.proofs.Common.{ℕ, List, [], ◌++◌}
use Rattle.rz_events.specs.Volume.{Volume}
use Rattle.rz_events.specs.declared.keys.Actor.{Actor}
use Rattle.rz_events.specs.declared.events.Event.{Event}
use Rattle.rz_client_model.specs.declared.writing.WriterState.{WriterState}
use Rattle.rz_client_model.specs.declared.writing.WriteStage.{WriteStage}
use Rattle.rz_client_model.specs.declared.writing.WriteStage.TheVariants as writing
use Rattle.rz_operation_model.specs.Work.{Work, OnBlock, PutBlock, GetBlock, Alone, Opening, Writing, Reading, Ending, Over}
use Rattle.rz_core.specs.Legal.{IsLegalInRuns}
use Rattle.rz_export_model.specs.Tree.{Tree}
use Rattle.rz_contents.specs.Model.{export_at, model_of}
use Rattle.rz_contents.specs.Putting.{IsPutStage, IsPutCourse}
use Rattle.rz_contents.specs.Getting.{IsGet}
use Rattle.rz_contents.specs.Files.{IsOnBlock, IsPutStageSeen, IsPutSeen, IsPutWatched, IsGetSeen, IsGetWatched}
use Rattle.rz_contents.proofs.Opened.{loud, leads_to_block}
use Rattle.rz_contents.proofs.Stillness.{still}
use Rattle.rz_contents.proofs.Putting.{puts_once}
use Rattle.rz_contents.proofs.Alone.{ended}
use Rattle.rz_contents.proofs.Gets.{gets}

module _ (v : Volume) (old xs : List Event) (by : Actor) (text : List ℕ) (legal : IsLegalInRuns v (xs ++ old)) where
  stage : (s : WriterState) (g : WriteStage) → IsPutStage by xs s.key text g → IsPutStageSeen v (model_of v old) text (model_of v (xs ++ old)) s.key g
  stage s writing.Beginning is = still v xs old legal is
  stage s (writing.Sending t) is = still v xs old legal is.0
  stage s (writing.Ended end) is = ended v old xs by s.key text end legal is

  put-seen : (t : Tree) (path : List ℕ) (block : ℕ) (work : Work) → IsOnBlock t path block work → IsPutCourse by text xs work → IsPutSeen v (model_of v old) text (model_of v (xs ++ old)) work
  put-seen t path block (Opening p plan) on is = still v xs old legal is.0
  put-seen t path block (Writing course written s) on is = stage s s.stage is.2
  put-seen t path block (Ending a) on is = still v xs old legal is
  put-seen t path block Over on is = absurd on
  put-seen t path block (_) on is = absurd is

  get-seen : (t : Tree) (path : List ℕ) (block : ℕ) (work : Work) → IsOnBlock t path block work → IsGet by xs work → IsGetSeen (model_of v old) (model_of v (xs ++ old)) work
  get-seen t path block (Opening p plan) on is = still v xs old legal is.0
  get-seen t path block (Reading course s) on is = still v xs old legal is.0
  get-seen t path block (Ending a) on is = still v xs old legal is
  get-seen t path block Over on is = absurd on
  get-seen t path block (_) on is = absurd is

pub put_watched : (v : Volume) → IsPutWatched v
put_watched v old xs by number path block text work legal course =
    put-seen v old xs by text legal (export_at v old).tree path block work (leads_to_block v old xs by number path (PutBlock block text) work legal course)
    (puts_once v.layout by number path block text xs work (loud v.layout by number (Opening path (OnBlock (PutBlock block text))) xs work course))

pub get_watched : (v : Volume) → IsGetWatched v
get_watched v old xs by number path block work legal course =
    get-seen v old xs by [] legal (export_at v old).tree path block work (leads_to_block v old xs by number path (GetBlock block) work legal course)
    (gets v.layout by number path block xs work (loud v.layout by number (Opening path (OnBlock (GetBlock block))) xs work course))
