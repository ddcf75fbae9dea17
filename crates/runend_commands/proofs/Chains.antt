-- Chains of steps.
use Rattle.std.proofs.Common.{◌≡◌, ◌++◌, [], ◌∷◌, List, refl, subst, sym}
use Rattle.runend_commands.specs.Step.{IsChain}

-- a chain goes on by one more step
pub chain_more : {State Request Reply : Type 0} (Step : State → Request → Reply → State → Type 0) (before between after : State)
    (requests : List Request) (replies : List Reply) (request : Request) (reply : Reply)
    → IsChain Step before requests replies between → Step between request reply after → IsChain Step before (requests ++ request ∷ []) (replies ++ reply ∷ []) after
chain_more {State} Step before between after [] [] request reply start step =
    (after, subst (λ (s : State). Step s request reply after) start step, refl)
chain_more Step before between after [] (r ∷ replies) request reply start step = absurd start
chain_more Step before between after (q ∷ requests) [] request reply start step = absurd start
chain_more Step before between after (q ∷ requests) (r ∷ replies) request reply start step =
    (start.0, start.1, chain_more Step start.0 between after requests replies request reply start.2 step)

-- a chain of steps is one of steps that say less
pub chain_weaker : {State Request Reply : Type 0} (Step Weaker : State → Request → Reply → State → Type 0)
    → ((before : State) (request : Request) (reply : Reply) (after : State) → Step before request reply after → Weaker before request reply after)
    → (before after : State) (requests : List Request) (replies : List Reply) → IsChain Step before requests replies after → IsChain Weaker before requests replies after
chain_weaker Step Weaker weaken before after [] [] chain = chain
chain_weaker Step Weaker weaken before after [] (r ∷ replies) chain = absurd chain
chain_weaker Step Weaker weaken before after (q ∷ requests) [] chain = absurd chain
chain_weaker Step Weaker weaken before after (q ∷ requests) (r ∷ replies) chain =
    (chain.0, weaken before q r chain.0 chain.1, chain_weaker Step Weaker weaken chain.0 after requests replies chain.2)

-- a chain of one request is one step
pub chain_of_one : {State Request Reply : Type 0} (Step : State → Request → Reply → State → Type 0) (before after : State) (request : Request) (replies : List Reply)
    → IsChain Step before (request ∷ []) replies after → (reply : Reply) × (replies ≡ reply ∷ []) × Step before request reply after
chain_of_one Step before after request [] chain = absurd chain
chain_of_one {State} {Request} {Reply} Step before after request (reply ∷ []) chain =
    (reply, refl, subst (λ (s : State). Step before request reply s) (sym chain.2) chain.1)
chain_of_one Step before after request (reply ∷ other ∷ replies) chain = absurd chain.2
