-- What operations came to, in words.
use Rattle.std.specs.Prelude.{ℕ, List, [], ◌∷◌, codes, length}
use Rattle.std.specs.Fmt.{decimal, digits}
use Rattle.std.specs.Prelude.{false}
use Rattle.rz_events.specs.declared.ends.Denial.{Denial}
use Rattle.rz_events.specs.declared.ends.Denial.TheVariants as denial
use Rattle.rz_events.specs.declared.tree.TreeFault.{TreeFault}
use Rattle.rz_events.specs.declared.tree.TreeFault.TheVariants as fault
use Rattle.rz_events.specs.declared.ends.WriteEnd.{WriteEnd}
use Rattle.rz_events.specs.declared.ends.WriteEnd.TheVariants as write
use Rattle.rz_events.specs.declared.ends.ReadEnd.{ReadEnd}
use Rattle.rz_events.specs.declared.ends.ReadEnd.TheVariants as read
use Rattle.rz_events.specs.declared.ends.RebuildEnd.{RebuildEnd}
use Rattle.rz_events.specs.declared.ends.RebuildEnd.TheVariants as rebuild
use Rattle.rz_events.specs.declared.files.Attr.{Attr}
use Rattle.rz_events.specs.declared.events.Answer.{Answer}
use Rattle.rz_events.specs.declared.events.Answer.TheVariants as answer
use Rattle.rz_script_words.specs.Words.{Word}
use Rattle.rz_show.specs.Words.{uuid_word, kind_word, bytes_word}
use Rattle.rz_show.specs.Outcomes.{why_word, seen_word, mask_word}

-- why the export denied what was asked
unfoldable pub denial_name : Denial → Word
denial_name denial.UnknownFile = codes "UnknownFile"
denial_name denial.BlockTooFar = codes "BlockTooFar"
denial_name denial.StampsSpent = codes "StampsSpent"
denial_name (denial.OldLoss kept) = codes "OldLoss"

-- why a call on the tree was refused
unfoldable pub fault_name : TreeFault → Word
fault_name fault.NoEntry = codes "NoEntry"
fault_name fault.NotDir = codes "NotDir"
fault_name fault.IsDir = codes "IsDir"
fault_name fault.Exists = codes "Exists"
fault_name fault.NotEmpty = codes "NotEmpty"
fault_name fault.IntoItself = codes "IntoItself"
fault_name fault.BadName = codes "BadName"
fault_name fault.TooManyLinks = codes "TooManyLinks"
fault_name fault.TooManyFiles = codes "TooManyFiles"
fault_name fault.NotLink = codes "NotLink"
fault_name fault.IsLink = codes "IsLink"

-- the end of the write of a block of a file with so many positions
unfoldable pub write_words : ℕ → WriteEnd → List Word
write_words positions (write.Acked stamp mask) = codes "acked" ∷ decimal stamp ∷ mask_word positions mask ∷ []
write_words positions (write.TooFew why) = codes "toofew" ∷ why_word positions why ∷ []
write_words positions (write.Denied d) = codes "refused" ∷ denial_name d ∷ []
write_words positions (write.Revoked later) = codes "revoked" ∷ decimal later ∷ []

-- the end of the read of a block of a file with so many positions
unfoldable pub read_words : ℕ → ReadEnd → List Word
read_words positions (read.Found stamp text) = codes "data" ∷ decimal stamp ∷ decimal (length text) ∷ bytes_word text ∷ []
read_words positions read.Hole = codes "hole" ∷ []
read_words positions (read.TooFew seen) = codes "toofew" ∷ seen_word positions seen ∷ []
read_words positions read.Inconsistent = codes "inconsistent" ∷ []
read_words positions (read.Denied d) = codes "refused" ∷ denial_name d ∷ []
read_words positions (read.Moved was now) = codes "moved" ∷ decimal was ∷ decimal now ∷ []

-- the end of the rebuild of a node
unfoldable pub rebuild_words : RebuildEnd → List Word
rebuild_words (rebuild.Rebuilt fence refilled) = codes "rebuilt" ∷ decimal fence ∷ decimal refilled ∷ []
rebuild_words (rebuild.Left fence refilled left) = codes "left" ∷ decimal fence ∷ decimal refilled ∷ decimal left ∷ []
rebuild_words rebuild.NotLost = codes "notlost" ∷ []
rebuild_words (rebuild.OtherLoss loss) = codes "otherloss" ∷ decimal loss ∷ []
rebuild_words (rebuild.OtherFence fence) = codes "otherfence" ∷ decimal fence ∷ []
rebuild_words rebuild.LostAgain = codes "lostagain" ∷ []
rebuild_words rebuild.DiskFault = codes "diskfault" ∷ []
rebuild_words (rebuild.Denied d) = codes "refused" ∷ denial_name d ∷ []

-- attributes, the mode in octal
unfoldable pub attr_words : Attr → List Word
attr_words a =
    codes "attr" ∷ kind_word a.kind ∷ digits 8 false a.mode ∷ decimal a.mtime ∷ decimal a.links ∷ decimal a.size ∷ uuid_word a.fid ∷ []

-- the answer of an operation of an actor whose file has so many positions
unfoldable pub answer_words : ℕ → Answer → List Word
answer_words positions (answer.Created fid) = codes "created" ∷ uuid_word fid ∷ []
answer_words positions answer.Plain = codes "done" ∷ []
answer_words positions (answer.Found kind fid) = codes "found" ∷ kind_word kind ∷ uuid_word fid ∷ []
answer_words positions (answer.Attr a) = attr_words a
answer_words positions (answer.Names names) = codes "names" ∷ decimal (length names) ∷ names
answer_words positions (answer.Target text) = codes "target" ∷ text ∷ []
answer_words positions (answer.Wrote bytes) = codes "wrote" ∷ decimal bytes ∷ []
answer_words positions (answer.Read text) = codes "read" ∷ decimal (length text) ∷ bytes_word text ∷ []
answer_words positions (answer.ShortWrite bytes end) = codes "short" ∷ decimal bytes ∷ write_words positions end
answer_words positions (answer.ShortRead bytes end) = codes "short" ∷ decimal bytes ∷ read_words positions end
answer_words positions (answer.Rebuild end) = rebuild_words end
answer_words positions (answer.Refused fault) = codes "refused" ∷ fault_name fault ∷ []
