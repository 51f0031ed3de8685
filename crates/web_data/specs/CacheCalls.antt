-- Cache calls whose data have the descriptions of their cache, and the answers that fit them.
use Rattle.std.specs.Prelude.{Bool, true, false, ◌&&◌}
use Rattle.web_data.specs.declared.cache.CacheId.{CacheId}
use Rattle.web_data.specs.declared.cache.CacheOp.{CacheOp}
use Rattle.web_data.specs.declared.cache.CacheOp.TheVariants as op
use Rattle.web_data.specs.declared.cache.CacheCall.{CacheCall}
use Rattle.web_data.specs.declared.cache.CacheAns.{CacheAns}
use Rattle.web_data.specs.declared.cache.CacheAns.TheVariants as answer
use Rattle.web_data.specs.Data.{has_desc}

abbrev pub op_fits : CacheId → CacheOp → Bool
op_fits id (op.Look key) = has_desc id.key key
op_fits id (op.Put key value) = has_desc id.key key && has_desc id.value value
op_fits id op.Flush = true

-- the key and the value of a call have the descriptions of its cache
abbrev pub cache_call_fits : CacheCall → Bool
cache_call_fits call = op_fits call.id call.op

abbrev pub op_answer_fits : CacheId → CacheOp → CacheAns → Bool
op_answer_fits id (op.Look key) (answer.Found value) = has_desc id.value value
op_answer_fits id (op.Look key) answer.Absent = true
op_answer_fits id (op.Put key value) (answer.Fresh fresh) = true
op_answer_fits id (op.Put key value) answer.Full = true
op_answer_fits id op.Flush answer.Flushed = true
op_answer_fits id _ _ = false

-- an answer that a cache may give to a call
abbrev pub cache_answer_fits : CacheCall → CacheAns → Bool
cache_answer_fits call answer = op_answer_fits call.id call.op answer
