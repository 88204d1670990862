use Rattle.std.proofs.Common.{◌≡◌, Bool, true, false, not, ◌&&◌, refl, sym, ◌∙◌}
use Rattle.std.proofs.lemmas.Result.{IfOk-weaker}
use Rattle.lw_rpc.specs.declared.message.Id.{Id}
use Rattle.lw_conversation.specs.Gate.{Passage, request}
use Rattle.lw_session.proofs.lifecycle.shutdown.Goals as goal

-- in a session that is not live it makes no difference what a request asks for
not_live : (initialized shut_down : Bool) (id : Id) (a b : Passage) → (initialized && not shut_down) ≡ false →
    request (record { initialized = initialized; shut_down = shut_down }) id a ≡ request (record { initialized = initialized; shut_down = shut_down }) id b
not_live false shut_down id a b is = refl
not_live true true id a b is = refl
not_live true false id a b is = cc

pub returns-then-not-is_live : goal.returns-then-not-is_live
returns-then-not-is_live c =
    IfOk-weaker c.refuse.result _ _
    (λ told is. not_live c.args.phase.initialized c.args.phase.shut_down c.args.id _ _ (sym c.is_live.ensures ∙ c.if-not-is_live.true) ∙ is)
    c.refuse.ensures
