mod moves
mod agreement
mod numbers
mod accepted
mod calm_stores
mod way_out
mod way_in
