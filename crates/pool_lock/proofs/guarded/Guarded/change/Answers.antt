use Rattle.std.proofs.Common.{[], ◌∷◌, ◌++◌, length, ap, sym, ◌∙◌}
use Rattle.pool_lock.proofs.ToldLemmas.{IsEventOf-pool, has_code-pool}
use Rattle.pool_lock.proofs.guarded.Guarded.change.Goals as goal

-- what the season after the front's events may be told, the pool may be told
pub change-requires : goal.change-requires
change-requires g c = record {
  may_be = IsEventOf-pool c.self.inside.pool g.J.Job.sheet c.args.front.now c.args.event
      c.recall_invariant.ensures.sound c.self.invariant.3 c.requires.may_be;
}

-- so it has a code
pub announce-requires-clause-code : goal.announce-requires-clause-code
announce-requires-clause-code g c =
    has_code-pool c.self.inside.pool c.args.event c.recall_invariant.ensures.sound
    (IsEventOf-pool c.self.inside.pool g.J.Job.sheet c.args.front.now c.args.event
    c.recall_invariant.ensures.sound c.self.invariant.3 c.requires.may_be)

-- the one who reports is told this event and no other
pub returns-clause-front : goal.returns-clause-front
returns-clause-front g c =
    c.announce.ensures.front ∙ ap (λ list. list ++ c.args.event ∷ []) c.front.view_is

-- as the pool is
pub returns-clause-same : goal.returns-clause-same
returns-clause-same g c =
    c.announce.ensures.front
    ∙ ap (λ list. list ++ c.args.event ∷ []) (c.announce.ensures.equal ∙ c.self.invariant.1)
    ∙ sym c.in_ok-epoch.ensures.log

-- so the answer is how many events it was told
pub returns-clause-epoch : goal.returns-clause-epoch
returns-clause-epoch g c =
    c.in_ok-epoch.ensures.epoch
    ∙ ap length (c.in_ok-epoch.ensures.log
    ∙ ap (λ list. list ++ c.args.event ∷ []) (sym (c.announce.ensures.equal ∙ c.self.invariant.1))
    ∙ sym c.announce.ensures.front)
