mod Downhills
mod Taking
mod FilledRows
mod Choosing
mod NamingRoots
mod Tallying
mod Rooted
