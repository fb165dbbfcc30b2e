use Rattle.std.proofs.Common.{refl}
use Rattle.aq_dirty.proofs.Dropped.{is_front, longer-are, longer-holds, rest-are, rest-holds}
use Rattle.aq_dirty.proofs.spans.drop_front.Goals as goal

pub returns-then-end-last-clause-are : goal.returns-then-end-last-clause-are
returns-then-end-last-clause-are c =
    let is = is_front _ _ c.in-Some.front c.pop_front.new.self.items c.args.end refl c.in-Some.ensures.items c.requires.are c.requires.first in
    longer-are _ _ _ _ is _ _ _ c.absorb-last.ensures.last c.absorb-last.ensures.left c.if-end-last.true c.push_front_reserved.ensures.items

pub returns-else-end-last-clause-are : goal.returns-else-end-last-clause-are
returns-else-end-last-clause-are c =
    let is = is_front _ _ c.in-Some.front c.pop_front.new.self.items c.args.end refl c.in-Some.ensures.items c.requires.are c.requires.first in
    rest-are _ _ _ _ is _ c.absorb-last.ensures.left

pub returns-then-end-last-clause-holds : goal.returns-then-end-last-clause-holds
returns-then-end-last-clause-holds c =
    let is = is_front _ _ c.in-Some.front c.pop_front.new.self.items c.args.end refl c.in-Some.ensures.items c.requires.are c.requires.first in
    longer-holds _ _ _ _ is _ _ _ c.absorb-last.ensures.last c.absorb-last.ensures.left c.push_front_reserved.ensures.items

pub returns-else-end-last-clause-holds : goal.returns-else-end-last-clause-holds
returns-else-end-last-clause-holds c =
    let is = is_front _ _ c.in-Some.front c.pop_front.new.self.items c.args.end refl c.in-Some.ensures.items c.requires.are c.requires.first in
    rest-holds _ _ _ _ is _ _ c.absorb-last.ensures.last c.absorb-last.ensures.left c.if-end-last.false
