-- Demand 2 of every load: when it is accepted, with which header and lists, and what its roots answer. Its third part, that an export reads
-- back, stands in the crate `demands`.
use mathlib.Core.Path.{◌≡◌}
use mathlib.Core.Logic.{◌↔◌}
use Rattle.codes.specs.Limits.{Limits}
use Rattle.store.specs.Store.{Store}
use Rattle.header.specs.Header.{Header, header}
use Rattle.header.specs.HeaderSaid.{HeaderSaid}
use Rattle.calls.specs.Load.{Load, load_of}
use Rattle.calls.specs.Acceptance.{Accepts, LoadedLists}
use Rattle.calls.specs.Roots.{Gains}
use Rattle.calls.proofs.Accepted.{accepted, accepted-lists}
use Rattle.calls.proofs.RootsAnswer.{roots-answer}

-- 'A file is accepted exactly when the rules, limits, level list, lent parts, the store's rules and its room allow it': each of these is a
-- condition of `Accepts`, and none speaks of a load's answer. The answer is then the header that the file's lines say, and no other.
pub demand-2-accepted : (m : Limits) (c : Load) (σ : Store) (h : Header)
    → ((load_of m c σ).answer ≡ header h) ↔ (HeaderSaid c.file h × Accepts m c σ)
demand-2-accepted m c σ h = accepted m c σ h

-- So are the lists that it leaves.
pub demand-2-lists : (m : Limits) (c : Load) (σ : Store) (h : Header) → (load_of m c σ).answer ≡ header h → LoadedLists c.file h (load_of m c σ)
demand-2-lists m c σ h q = accepted-lists m c σ h q

-- 'Each root answers as the file's own lines do': in the store that an accepted load leaves, which keeps the rules and has only grown, there
-- is a root for each entry of `.rootids`, and it means what the file says of this entry.
pub demand-2-roots : (m : Limits) (c : Load) (σ : Store) (h : Header) → (load_of m c σ).answer ≡ header h → Gains m c σ (load_of m c σ)
demand-2-roots m c σ h q = roots-answer m c σ h q
