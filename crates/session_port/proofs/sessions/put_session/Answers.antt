use Rattle.session_port.proofs.Laws.{put_both}
use Rattle.session_port.proofs.sessions.put_session.Goals as goal

pub returns : goal.returns
returns c =
    put_both c.args.bytes.now _ _ _ _ c.args.s c.requires c.pack-front.ensures c.count_bytes-back.ensures c.put.ensures c.put-2.ensures
