use Rattle.conn_serve.proofs.serve.read_link.Goals as goal

pub returns-clause-writes : goal.returns-clause-writes
returns-clause-writes g c = let k = g.met.L.Conn.read_keeps c.read.new.self c.args.link.now c.read.ensures.keeps in k.1

pub returns-clause-lasting : goal.returns-clause-lasting
returns-clause-lasting g c = let k = g.met.L.Conn.read_keeps c.read.new.self c.args.link.now c.read.ensures.keeps in k.2

pub returns-clause-extra : goal.returns-clause-extra
returns-clause-extra g c = let k = g.met.L.Conn.read_keeps c.read.new.self c.args.link.now c.read.ensures.keeps in k.3
