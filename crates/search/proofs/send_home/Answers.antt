-- `send_home` meets its contract: the table, the set and the order are made, and the rounds are `send_all`'s.
-- From the contracts of what it calls, with what they ask and give from Prepares.
use Rattle.search.proofs.Prepares.{sendable_prepared}
use Rattle.search.proofs.send_home.Goals as goal

pub send_all-requires : goal.send_all-requires
send_all-requires c =
    sendable_prepared c.requires c.fill_follows.ensures c.fill_follows.auto.follows
    c.add_free.ensures c.add_free.auto.set c.order_carriers-count.ensures
