-- `permits` and `regains` at a call: what each is handed, and what a caller has of it, whichever way it answers.
-- Assumes `Logic`.
use Rattle.std.proofs.Common.{◌≡◌, ℕ, List, [], ◌∷◌, refl, ap}
use mathlib.Core.Bool.{Bool}
use seplogic.Ra.Ura.{Ura}
use mir.Val.{Val, vbool, vptr, vunit}
use base.Logic.{SProp, ent, sep, ex, guard, id⊢}
use base.Fml.{Lft, Share, ftrue, fsep, flft}
use prog.Memory.{Memory}
use prog.Routine.{Routine}
use types.Logic.{Logic, sem}
use contract.Monad.{Fun}
use types.Kit.{‵, raw, ◌⊛◌, some, later, ◌$◌, ◌∵◌, !, qed, move, keep, use1, split, join, pick, fjoin, feq_i, feq_l, check, show, await}
use types.Kit.{updating, now as at_once, done}
use denote.Memory.{hidden_shr}
use denote.Builtin.{bool, unit}
use denote.Steps.{nothing, only}
use denote.Triple.Statement.{Contract}
use denote.Triple.Spec.{triple_of}
use Rattle.scarce.specs.contracts.count.Count as counter
use Rattle.scarce.specs.contracts.count.permits as PM
use Rattle.scarce.specs.contracts.count.regains as RE

module _ {M : Type 1} {𝓤 : Ura M} (𝓛 : Logic 𝓤) (at_mem : Memory → SProp 𝓤) (run : Routine → Fun 𝓤) where
  abbrev pub Permit : Contract 𝓤
  Permit = triple_of 𝓛 PM.signature (PM.spec 𝓛 at_mem run)

  abbrev pub at_permit : Lft → Share → ℕ × ℕ → counter.the_row.Denot → Permit.Ghost
  at_permit κ q c d = (((κ, tt), (q, tt), tt, (record { ref_ptr = c; now = d }, tt), (vptr c.0 c.1 ∷ [], tt)), tt)

  abbrev pub Regain : Contract 𝓤
  Regain = triple_of 𝓛 RE.signature (RE.spec 𝓛 at_mem run)

  abbrev pub at_regain : Lft → Share → ℕ × ℕ → counter.the_row.Denot → Regain.Ghost
  at_regain κ q c d = (((κ, tt), (q, tt), tt, (record { ref_ptr = c; now = d }, tt), (vptr c.0 c.1 ∷ [], tt)), tt)

module _ {M : Type 1} {𝓤 : Ura M} (𝓛 : Logic 𝓤) (at_mem : Memory → SProp 𝓤) (run : Routine → Fun 𝓤) (κ : Lft) (q : Share) (c : ℕ × ℕ)
    (d : counter.the_row.Denot) where
  open 𝓛 use {H, A}

  pub Permit-goes : ent 𝓤 (sep 𝓤 (sem 𝓛 (hidden_shr counter.the_row κ d c.0 c.1)) (A.lft κ q))
      ((Permit 𝓛 at_mem run).pre (at_permit 𝓛 at_mem run κ q c d))
  Permit-goes =
      qed 𝓛 (‵ (hidden_shr counter.the_row κ d c.0 c.1) ∷ ‵ (flft κ q) ∷ []) ∵ feq_i ! (List Val) (vptr c.0 c.1 ∷ [])
      (vptr c.0 c.1 ∷ []) refl $ fjoin ! $
      nothing ! $ move ! (1 ∷ []) $ fjoin ! $ nothing ! $ move ! (2 ∷ []) $ join ! $ join ! $ nothing ! $ move ! (1 ∷ []) $ join ! $ done !

  pub Permit-gives : (v : Val)
      → ent 𝓤 ((Permit 𝓛 at_mem run).post (at_permit 𝓛 at_mem run κ q c d) v) (H.⇛ (ex 𝓤 (λ (r : Bool). guard 𝓤 (v ≡ vbool r) (A.lft κ q))))
  Permit-gives v =
      qed 𝓛 (raw ((Permit 𝓛 at_mem run).post (at_permit 𝓛 at_mem run κ q c d) v) ∷ []) ∵ updating ! $
      use1 𝓛
      (later
      (some
      (λ (r : Bool).
      ((‵ (flft κ q) ⊛ ‵ ftrue) ⊛ ‵ (bool.own_val r (v ∷ []))) ⊛ some (λ (ws : Unit {0} × Unit {0}). ‵ (fsep ftrue ftrue) ⊛ ‵ ftrue))))
      (id⊢ 𝓤 _) $ await ! tt $ pick ! (λ r.
      split ! $ split ! $ move ! (1 ∷ []) $ feq_l !
      (λ e.
      split ! $ at_once ! $ show ! (λ (z : Bool). guard 𝓤 (v ≡ vbool z) (A.lft κ q)) r $ check ! (ap only e) $ keep !
      (0 ∷ []) $ done !))

  pub Regain-goes : ent 𝓤 (sep 𝓤 (sem 𝓛 (hidden_shr counter.the_row κ d c.0 c.1)) (A.lft κ q))
      ((Regain 𝓛 at_mem run).pre (at_regain 𝓛 at_mem run κ q c d))
  Regain-goes = Permit-goes

  pub Regain-gives : (v : Val)
      → ent 𝓤 ((Regain 𝓛 at_mem run).post (at_regain 𝓛 at_mem run κ q c d) v) (H.⇛ (guard 𝓤 (v ≡ vunit) (A.lft κ q)))
  Regain-gives v =
      qed 𝓛 (raw ((Regain 𝓛 at_mem run).post (at_regain 𝓛 at_mem run κ q c d) v) ∷ []) ∵ updating ! $
      use1 𝓛
      (later
      (some
      (λ (r : Unit {0}).
      ((‵ (flft κ q) ⊛ ‵ ftrue) ⊛ ‵ (unit.own_val r (v ∷ []))) ⊛ some (λ (ws : Unit {0} × Unit {0}). ‵ (fsep ftrue ftrue) ⊛ ‵ ftrue))))
      (id⊢ 𝓤 _) $ await ! tt $ pick ! (λ r.
      split ! $ split ! $ move ! (1 ∷ []) $ feq_l ! (λ e. split ! $ at_once ! $ check ! (ap only e) $ keep ! (0 ∷ []) $ done !))
