-- Stores in which users see the same.
use Rattle.std.proofs.Common.{ℕ, ◌≡◌, List, [], ◌++◌, get_or, Option, refl, sym, ◌∙◌, ap, append_assoc}
use Rattle.std.specs.Prelude.{◌/◌, ◌%◌, unwrap_or}
use Rattle.mj_angles.specs.declared.layout.Layout.{Layout}
use Rattle.mj_angles.specs.Layout.{block_bytes_of}
use Rattle.rz_events.specs.declared.keys.Key.{Key}
use Rattle.rz_events.specs.declared.events.Event.{Event}
use Rattle.rz_chronicle.specs.Keys.{IsLater}
use Rattle.rz_contents.specs.Model.{Model, byte_at, IsSame}
use Rattle.rz_store.specs.Store.{StoreView, LooksSame}
use Rattle.rz_store.specs.Causes.{WasCause}

pub same-self : (a : Model) → IsSame a a
same-self a = record { names = refl; blocks = λ key. refl }

pub same-then : (a b c : Model) → IsSame a b → IsSame b c → IsSame a c
same-then a b c ab bc = record { names = bc.names ∙ ab.names; blocks = λ key. bc.blocks key ∙ ab.blocks key }

pub same-byte : (layout : Layout) (a b : Model) → IsSame a b → (fid i : ℕ) → byte_at layout b fid i ≡ byte_at layout a fid i
same-byte layout a b same fid i =
    ap (λ (o : Option (List ℕ)). get_or (unwrap_or o []) (i % block_bytes_of layout) 0) (same.blocks (record { fid = fid; block = i / block_bytes_of layout }))

-- The log goes on.

pub later-self : (h : List Event) → IsLater h h
later-self h = ([], refl)

pub later-then : (a b c : List Event) → IsLater a b → IsLater b c → IsLater a c
later-then a b c ab bc = (bc.0 ++ ab.0, bc.1 ∙ ap (λ (h : List Event). bc.0 ++ h) ab.1 ∙ sym (append_assoc bc.0 ab.0 a))

-- The cause of what was not done.

pub cause-here : (is_cause : StoreView → Type 0) (old new : StoreView) → IsLater old.log new.log → LooksSame old new → is_cause old → WasCause is_cause old new
cause-here is_cause old new later same so = record { state = old; volume = refl; from = later-self old.log; to = later; looks = same; cause = so }

pub cause-after : (is_cause : StoreView → Type 0) (old mid new : StoreView) → mid.volume ≡ old.volume → IsLater old.log mid.log → WasCause is_cause mid new → WasCause is_cause old new
cause-after is_cause old mid new volume later was = record {
  state = was.state;
  volume = was.volume ∙ volume;
  from = later-then old.log mid.log was.state.log later was.from;
  to = was.to;
  looks = was.looks;
  cause = was.cause;
}

-- what was so of a part of the call is so of the call
pub cause-as : (one is_cause : StoreView → Type 0) (old new : StoreView) → ((s : StoreView) → one s → is_cause s) → WasCause one old new → WasCause is_cause old new
cause-as one is_cause old new so was = record { state = was.state; volume = was.volume; from = was.from; to = was.to; looks = was.looks; cause = so was.state was.cause }
