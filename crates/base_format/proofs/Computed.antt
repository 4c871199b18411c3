-- What a computed example unfolds: a name here stands on an `unfolding` line for all the definitions that its own line names.
use Prim.Native.Nat.{ℕ}
use Rattle.base_format.specs.Bytes.{be, bytes_of, bytes_of_all}
use Rattle.base_format.specs.Card.{one_card_wrong, card_wrong, cards_from}
use Rattle.base_format.specs.Header.{period_of, card_count, header_size, plain_header, pooled_header, header_of, reserved_wrong, flags_wrong, period_wrong, header_from}
use Rattle.base_format.specs.Index.{places_from, index_of, index_into}
use Rattle.base_format.specs.Jump.{same_header, same_card, same_cards, records_other, closing_past, jump_belongs, jumped}
use Rattle.base_format.specs.Listener.{answers, records_from, vsyncs_from}
use Rattle.base_format.specs.Operation.{address_width, size_of, fields_at, copy_wrong, write_rules, fill_rules, copy_rules, allowed, operation_at, record_at, item_at}
use Rattle.base_format.specs.Next.{next_part}
use Rattle.base_format.specs.Player.{slot_wrong, card_used, pool_used, pools_used, item_used, waves_by, gathered, frame_begun, play_frame, play_opening, play_closing, play, belongs, call}
use Rattle.base_format.specs.Pool.{bank_limit, kind_wrong, pool_wrong, pools_from}
use Rattle.base_format.specs.Repack.{to_pcm, to_cores, in_order, runs, starts_wave, pieces, is_known, added, distinct, waves_of, place_of, repacked, repack}
use Rattle.base_format.specs.State.{table_of, unplayed, player_of, refused_player, started_as}
use Rattle.base_format.specs.Steps.{step_answers, reached_by, call_answers, resting_steps, jumps_from, step_records_from, completed_from, due_from}
use Rattle.base_format.specs.Stream.{operations_from, frames_from, opening_limit, counts_wrong, sections_wrong, read}
use Rattle.base_format.specs.Target.{slot_target, target_of, outside}
use Rattle.base_format.specs.Writes.{upward, writes_with, writes_of, writes_of_all, any_si22, any_frame_si22, silence, closing_writes, closing, writes_in, vsync}
use Rattle.base_format.specs.Written.{item_bytes, operations_bytes, frames_bytes, cards_bytes, directory_bytes, payloads_bytes, body_bytes, written}

-- the checks 1 to 20: header and cards, pools and operations, all of them
unfoldable reading_header : ℕ
unfolding be period_of card_count header_size plain_header pooled_header header_of reserved_wrong flags_wrong period_wrong header_from one_card_wrong card_wrong cards_from
reading_header = 0

unfoldable reading_items : ℕ
unfolding bank_limit kind_wrong pool_wrong pools_from slot_target target_of outside address_width size_of fields_at copy_wrong write_rules fill_rules copy_rules allowed operation_at record_at item_at
reading_items = 0

unfoldable pub reading : ℕ
unfolding reading_header reading_items operations_from frames_from opening_limit counts_wrong sections_wrong read
reading = 0

-- a stream as bytes
unfoldable pub writing : ℕ
unfolding bytes_of bytes_of_all item_bytes operations_bytes frames_bytes cards_bytes directory_bytes payloads_bytes body_bytes written
writing = 0

-- a master as a stream of version 2
unfoldable pub repacking : ℕ
unfolding to_pcm to_cores in_order runs starts_wave pieces is_known added distinct waves_of place_of repacked repack
repacking = 0

-- the writes of each vsync
unfoldable pub listing : ℕ
unfolding upward writes_with writes_of writes_of_all any_si22 any_frame_si22 silence closing_writes closing writes_in vsync
listing = 0

-- a player's start, its calls, and what their answers say
unfoldable starting : ℕ
unfolding table_of unplayed player_of refused_player started_as
starting = 0

unfoldable pub playing : ℕ
unfolding starting answers records_from vsyncs_from slot_wrong card_used pool_used pools_used item_used waves_by gathered frame_begun play_frame play_opening play_closing next_part play belongs call
playing = 0

-- indexes and jumps
unfoldable pub jumping : ℕ
unfolding places_from index_of index_into same_header same_card same_cards records_other closing_past jump_belongs jumped
jumping = 0

-- what steps answer
unfoldable pub stepping : ℕ
unfolding step_answers reached_by call_answers resting_steps jumps_from step_records_from completed_from due_from
stepping = 0
