-- How many keys a node holds.
use Rattle.std.proofs.Common.{◌≡◌, ◌⊎◌, inl, inr, ℕ, ◌-◌, false, List, length, Option, sym, ◌∙◌, ap, arith}
use Rattle.std.specs.Prelude.{is_some}
use Rattle.std.specs.FinMap as maps
use Rattle.rz_events.specs.Keys.{key_cmp}
use Rattle.rz_events.specs.declared.keys.Key.{Key}
use Rattle.rz_events.specs.declared.records.Head.{Head}
use Rattle.rz_events.specs.declared.records.Held.{Held}
use Rattle.rz_events.specs.declared.nodes.Phase.{Phase}
use Rattle.rz_events.specs.declared.nodes.Phase.TheVariants.{Up, Down, Lost}
use Rattle.rz_node_model.specs.Records.{held_of, listed, found}
use Rattle.rz_index.specs.declared.index.Entry.{Entry}
use Rattle.rz_index.specs.Indexed.{Indexed}
use Rattle.rz_node.specs.Kept.{held_by, IsTied}
use Rattle.rz_node.specs.View.{held_in}
use Rattle.rz_node.proofs.Tied.{len-held}

-- a lost node holds nothing
pub none-found : (phase : Phase) (entries : maps.FinMap key_cmp Entry) (heads : List (Option Head)) (key : Key) (stamp : ℕ)
    → phase ≡ Lost → false ≡ is_some (found stamp (held_of (held_in phase entries heads) key))
none-found phase entries heads key stamp lost =
    sym (ap (λ (p : Phase). is_some (found stamp (held_of (held_in p entries heads) key))) lost ∙ ap (λ (o : Option (List Held)). is_some (found stamp (listed o))) (maps.get-empty key_cmp key))

pub none-counted : (phase : Phase) (entries : maps.FinMap key_cmp Entry) (heads : List (Option Head)) → phase ≡ Lost → 0 ≡ maps.len (held_in phase entries heads)
none-counted phase entries heads lost = sym (ap (λ (p : Phase). maps.len (held_in p entries heads)) lost ∙ maps.len-empty key_cmp (List Held))

-- the pairs that are not free are those of the keys
counted : (pairs : ℕ) (heads : List (Option Head)) (index : Indexed) → IsTied pairs heads index → pairs - length index.free ≡ maps.len (held_by index.entries heads)
counted pairs heads index tied = omega (arith, tied.count, len-held index.entries heads)

pub counted-in : (phase : Phase) (pairs : ℕ) (heads : List (Option Head)) (index : Indexed) → IsTied pairs heads index → (phase ≡ Up) ⊎ (phase ≡ Down) → pairs - length index.free ≡ maps.len (held_in phase index.entries heads)
counted-in phase pairs heads index tied (inl up) = counted pairs heads index tied ∙ sym (ap (λ (p : Phase). maps.len (held_in p index.entries heads)) up)
counted-in phase pairs heads index tied (inr down) = counted pairs heads index tied ∙ sym (ap (λ (p : Phase). maps.len (held_in p index.entries heads)) down)
