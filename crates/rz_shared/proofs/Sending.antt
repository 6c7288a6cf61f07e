-- What stands under a lock may go to another thread: a node over its disk, and the export. So threads may share a cluster. Types
-- that hold a tree are shown one by one, from the tree up, so that no search is long.
use denote.RattleType.{RattleType}
use denote.Param.Send.{IsSend, IsSync, sendable, plain_send, struct_send, struct_sync, enum_send, recorded_send, recorded_sync, view_send, view_sync}
use denote.Builtin.{u64}
use denote.Struct.Declared.{shape}
use denote.Enum.Declared as enums
use Rattle.std.proofs.Crossing.{crosses, Vec-send, Vec-sync}
use Rattle.std.proofs.MapsCrossing as maps
use Rattle.std.proofs.alloc.Global.TheSendSync as Heap
use Rattle.std.proofs.option.Option.TheSendSync as Option
use Rattle.std.proofs.sync.Mutex.TheSendSync as Mutex
use Rattle.mj_angles.proofs.layout.Layout.TheSendSync as Layout
use Rattle.rz_disk.specs.declared.disk.Disk as Disk
use Rattle.rz_disk.proofs.fused.Fused.TheSendSync as Fused
use Rattle.rz_events.proofs.keys.Key.TheSendSync as Key
use Rattle.rz_events.proofs.files.NodeSpec.TheSendSync as NodeSpec
use Rattle.rz_events.proofs.nodes.Phase.TheSendSync as Phase
use Rattle.rz_node_model.proofs.pending.Pending.TheSendSync as Pending
use Rattle.rz_cells.proofs.cells.Cells.TheSendSync as Cells
use Rattle.rz_index.proofs.nodes.IndexNode.TheSendSync as Row
use Rattle.rz_index.specs.contracts.index.Index as Index
use Rattle.rz_node.specs.contracts.node.Node as Node
use Rattle.rz_node.specs.contracts.node.Node.TheInside as NodeIn
use Rattle.rz_sequence.proofs.sequence.Sequence.TheLaws.TheKnot as items
use Rattle.rz_blocks.proofs.row.Row.TheSendSync as Marked
use Rattle.rz_blocks.specs.contracts.marks.Marks as Marks
use Rattle.rz_names.proofs.entries.PathEntry.TheSendSync as Name
use Rattle.rz_names.specs.contracts.map.NameMap as NameMap
use Rattle.rz_tree.proofs.inodes.Inodes.TheSendSync as Inodes
use Rattle.rz_tree.specs.contracts.tree.Tree as Tree
use Rattle.rz_blocks.proofs.blocks.BlockEntry.TheSendSync as Block
use Rattle.rz_blocks.specs.contracts.blocks.Blocks as Blocks
use Rattle.rz_config.proofs.volume.Volume.TheSendSync as Volume
use Rattle.rz_export.proofs.nodes.KeptNode.TheSendSync as KeptNode
use Rattle.rz_export.specs.contracts.export.Export as Export
use Rattle.rz_journal.proofs.entries.Entries.TheSendSync as Entries
use Rattle.rz_journal.specs.contracts.journal.Journal as Journal
use Rattle.rz_journal.specs.contracts.journal.Journal.TheInside as JournalIn
use Rattle.rz_metadata.proofs.journaled.JournalRefusal.TheSendSync as JournalRefusal
use Rattle.rz_metadata.specs.contracts.journaled.Journaled as Journaled
use Rattle.rz_metadata.specs.contracts.metadata.Metadata as Metadata
use Rattle.rz_chronicle.specs.declared.passes.Naming as Naming
use Rattle.rz_chronicle.proofs.passes.WordToken.TheSendSync as WordToken
use Rattle.rz_shared_locked.proofs.away.Away.TheSendSync as Away
use Rattle.rz_shared_locked.specs.declared.counting.Metering as Metering
use Rattle.rz_shared_locked.specs.contracts.occupant.Occupant as Occupant
use Rattle.rz_shared_locked.specs.contracts.locked_node.LockedNode as LockedNode
use Rattle.rz_shared_locked.specs.contracts.locked_node.LockedNode.TheInside as LockedNodeIn
use Rattle.rz_shared_locked.specs.contracts.locked_export.LockedExport as LockedExport
use Rattle.rz_shared_locked.specs.contracts.locked_export.LockedExport.TheInside as LockedExportIn
use Rattle.rz_shared.specs.contracts.room.ClosingRoom as Room
use Rattle.rz_shared.specs.contracts.room.ClosingRoom.TheInside as RoomIn
use Rattle.rz_shared.specs.contracts.cluster.Cluster as Cluster
use Rattle.rz_shared.specs.contracts.cluster.Cluster.TheInside as ClusterIn

index-send : IsSend Index.the_row
index-send = search (Row.the_send, crosses, sendable) depth 60 fits 20000

node-send : (D : RattleType) (g : Disk.Ghosts D.Denot) → IsSend D → IsSend (Node.the_row D g)
node-send D g s = view_send (NodeIn.the_row D g) _ _ _ _ (recorded_send (NodeIn.the_field D g).row _ _ (NodeIn.the_type D g).to_one (struct_send (shape (NodeIn.the_type D g)) (Phase.the_field_send, (plain_send _ _ _ _ _, (Option.the_field_send _ Pending.the_send, (Cells.the_field_send D g s, (index-send, tt)))))))

marks-send : IsSend Marks.the_row
marks-send = search (Marked.the_send, items.crosses, crosses, sendable) depth 60 fits 20000

names-send : IsSend NameMap.the_row
names-send = search (Name.the_send, items.crosses, crosses, sendable) depth 60 fits 20000

tree-send : IsSend Tree.the_row
tree-send = search (names-send, Inodes.the_send, crosses, sendable) depth 60 fits 20000

blocks-send : IsSend Blocks.the_row
blocks-send = search (marks-send, Key.the_send, Block.the_send, maps.crosses, crosses, sendable) depth 60 fits 20000

export-send : IsSend Export.the_row
export-send = search (tree-send, blocks-send, marks-send, Volume.the_send, KeptNode.the_send, crosses, sendable) depth 60 fits 20000

journal-send : (D : RattleType) (g : Disk.Ghosts D.Denot) → IsSend D → IsSend (Journal.the_row D g)
journal-send D g s = view_send (JournalIn.the_row D g) _ _ _ _
    (recorded_send (JournalIn.the_field D g).row _ _ (JournalIn.the_type D g).to_one (struct_send (shape (JournalIn.the_type D g)) (Heap.the_field_send, (export-send, (Entries.the_field_send D s, (plain_send _ _ _ _ _, tt))))))

journaled-send : (D : RattleType) (g : Disk.Ghosts D.Denot) → IsSend D → IsSend (Journaled.the_field D g).row
journaled-send D g s = struct_send (shape (Journaled.the_type D g)) (journal-send D g s, (Option.the_field_send _ JournalRefusal.the_send, tt))

metadata-send : (D : RattleType) (g : Disk.Ghosts D.Denot) → IsSend D → IsSend (Metadata.the_field D g).row
metadata-send D g s = enum_send (enums.shape (Metadata.the_type D g)) ((export-send, tt), ((journaled-send D g s, tt), tt))

occupant-send : (D : RattleType) (g : Disk.Ghosts D.Denot) → IsSend D → IsSend (Occupant.the_field D g).row
occupant-send D g s = enum_send (enums.shape (Occupant.the_type D g)) ((node-send D g s, tt), ((Away.the_field_send, tt), tt))

module _ (D J : RattleType) (g : Disk.Ghosts D.Denot) (c : Metering.Ghosts J.Denot) (n : Naming.Ghosts J.Denot) (s : IsSend D) where
  locked_export-send : IsSend (LockedExport.the_row D J g c n)
  locked_export-send = view_send (LockedExportIn.the_row D J g c n) _ _ _ _
      (recorded_send (LockedExportIn.the_field D J g c n).row _ _ (LockedExportIn.the_type D J g c n).to_one (struct_send (shape (LockedExportIn.the_type D J g c n)) (metadata-send D g s, (WordToken.the_send J n, tt))))

  locked_node-send : IsSend (LockedNode.the_row D J g c n)
  locked_node-send = view_send (LockedNodeIn.the_row D J g c n) _ _ _ _
      (recorded_send (LockedNodeIn.the_field D J g c n).row _ _ (LockedNodeIn.the_type D J g c n).to_one
      (struct_send (shape (LockedNodeIn.the_type D J g c n)) (Heap.the_field_send, (plain_send _ _ _ _ _, (occupant-send D g s, (plain_send _ _ _ _ _, (Option.the_field_send u64 (plain_send _ _ _ _ _), (WordToken.the_send J n, tt))))))))

module _ (D J : RattleType) (g : Disk.Ghosts D.Denot) (c : Metering.Ghosts J.Denot) (n : Naming.Ghosts J.Denot) (s : IsSend D) where
  room-send : IsSend (Room.the_row D J g c n)
  room-send = view_send (RoomIn.the_row D J g c n) _ _ _ _
      (recorded_send (RoomIn.the_field D J g c n).row _ _ (RoomIn.the_type D J g c n).to_one
      (struct_send (shape (RoomIn.the_type D J g c n)) (Vec-send _ (locked_node-send _ J _ c n (Fused.the_send D g s)), (Vec-send _ (Option.the_send D s), (Vec-send D s, (Vec-send _ (WordToken.the_send J n), tt))))))

  pub cluster_sync : IsSync (Cluster.the_row D J g c n)
  cluster_sync = view_sync (ClusterIn.the_row D J g c n) _ _ _ _ (recorded_sync (ClusterIn.the_field D J g c n).row _ _ (ClusterIn.the_type D J g c n).to_one (struct_sync (shape (ClusterIn.the_type D J g c n)) (
    Layout.the_field_sync,
    (Vec-sync _ NodeSpec.the_sync, (Vec-sync _ (Mutex.the_sync _ (locked_node-send _ J _ c n (Fused.the_send D g s))), (Mutex.the_sync _ (locked_export-send D J g c n s), (Mutex.the_sync _ room-send, tt)))),
  )))
