-- What was asked for fits the disks.
use Rattle.std.proofs.Common.{ℕ, ◌≡◌, Option, Some, None, Ok, subst, sym}
use Rattle.rz_request.specs.Line.{Meaning}
use Rattle.rz_request.specs.Requests.{Asks, AsksFor, Reading, disks_for, wished}
use Rattle.rz_request.specs.declared.wishes.Request.{Request}
use Rattle.rz_request.specs.declared.wishes.Wish.{Wish}
use Rattle.rz_request.specs.declared.wishes.Wish.TheVariants as wishes

-- a request for this wish has the disks that its own wish needs
fits-so : (wish : Wish) (r : Request) (disks : ℕ) → disks ≡ disks_for wish r.script → r.wish ≡ wish → disks ≡ disks_for r.wish r.script
fits-so wish r disks fits is = subst (λ (w : Wish). disks ≡ disks_for w r.script) (sym is) fits

fits-for : (w : Option Wish) (m : Option Meaning) (source : Reading) (disks : ℕ) (r : Request) → AsksFor w m source disks (Ok r) → disks ≡ disks_for r.wish r.script
fits-for None m source disks r h = cc
fits-for (Some wishes.Replay) m source disks r h = fits-so wishes.Replay r disks h.0.2.2 h.1
fits-for (Some (wishes.Load seed)) m source disks r h = fits-so (wishes.Load seed) r disks h.0.2 h.1
fits-for (Some wishes.Scrub) m source disks r h = fits-so wishes.Scrub r disks h.0.2.2 h.1
fits-for (Some wishes.First) m source disks r h = fits-so wishes.First r disks h.0.2.2 h.1
fits-for (Some wishes.Again) m source disks r h = fits-so wishes.Again r disks h.0.2.2 h.1

pub asks-fits : (m : Option Meaning) (source : Reading) (disks : ℕ) (r : Request) → Asks m source disks (Ok r) → disks ≡ disks_for r.wish r.script
asks-fits m source disks r h = fits-for (wished m) m source disks r h
